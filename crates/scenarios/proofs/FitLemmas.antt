-- Statements that break no rule fit their interface.
use Rattle.std.proofs.Common.{◌≡◌, ℕ, ◌+◌, ◌*◌, ◌/◌, ◌^◌, ◌<◌, ◌≤◌, Bool, true, false, not, cond, List, [], ◌∷◌, length, drop, get_or, Option, Some, None, refl, sym, subst, arith}
use Rattle.std.specs.Prelude.{◌&&◌, ◌||◌, ◌==◌, nat_lt, nat_le, IsTrue, IsFalse}
use Rattle.std.proofs.lemmas.Bool.{and_parts, eqb-true, false≢true}
use Rattle.std.proofs.lemmas.Bool.Decides.{Decides-ltb, nat_tests}
use Rattle.std.proofs.lemmas.List.{length-map}
use Rattle.std.proofs.lemmas.List.Elements.{All-map}
use Rattle.std.proofs.lemmas.List.Sums.{AllPass-from_list_all}
use Rattle.iface_roles.specs.declared.records.HostPort.{HostPort}
use Rattle.iface_roles.specs.declared.records.AgentPort.{AgentPort}
use Rattle.iface_roles.specs.declared.records.StreamPort.{StreamPort}
use Rattle.iface_roles.specs.Proper.{range_of, span_of}
use Rattle.scenario_tables.specs.declared.statements.AgentStatement.TheVariants.{Latency}
use Rattle.scenario_tables.specs.declared.statements.SourceBeat.{SourceBeat}
use Rattle.scenario_tables.specs.Statements.{IsRest, longest_of, all_lanes, FitsCommand, FitsHost, FitsAgent, FitsStall, FitsPorts, FitsBeat, GoesOn, IsUnmarked}
use Rattle.waves.specs.Words.{word_at}
use Rattle.waves.specs.Spelling.{is_hexadecimal, hexadecimal_in, count_in, are_bytes, bytes_in, is_pattern, pattern_in}
use Rattle.scenarios.specs.Hosts.{CanWrite, CanRead, is_rest, is_burst, fits_address, fits_enables, fits_command, fits_word, write_of, read_of}
use Rattle.scenarios.specs.Agents.{CanFill, CanAnswer, CanWaitFor, fill_of, code_of, pattern_of}
use Rattle.scenarios.specs.Streams.{IsShown, beat_of, fits_channel, fits_ports, goes_on, is_marked_well, keeps_packets}
use Rattle.scenarios.proofs.PortLemmas.{some_byte, few_bytes}

is_false : (b : Bool) → not b ≡ true → IsFalse b
is_false true e = cc
is_false false e = refl

less : (a b : ℕ) → nat_lt a b ≡ true → a < b
less a b e = (Decides-ltb a b).0 e

most : (a b : ℕ) → nat_le a b ≡ true → a ≤ b
most a b e = grind (arith, nat_tests)

either : (b other : Bool) → (b || other) ≡ true → IsFalse b → other ≡ true
either true other e h = cc
either false other e h = e

-- ---- hosts

pub rest_fits : (cycles : ℕ) → is_rest cycles ≡ true → IsRest cycles
rest_fits cycles h = let both = and_parts (nat_le 1 cycles) (nat_le cycles 65536) h in (most 1 cycles both.0, most cycles 65536 both.1)

command_fits : (port : HostPort) (words : List (List ℕ)) (count : ℕ) → fits_command port words ≡ true → is_burst port count ≡ true
    → FitsCommand port (hexadecimal_in (word_at 2 words)) (hexadecimal_in (word_at 3 words)) count
command_fits port words count h burst =
    let address = hexadecimal_in (word_at 2 words) in
    let enables = hexadecimal_in (word_at 3 words) in
    let all = all_lanes port.word_bytes in
    let both = and_parts (fits_address port address) (fits_enables port enables) h in
    let lanes = and_parts (nat_le enables all) (port.enables || enables == all) both.1 in
    let beats = and_parts (nat_le 1 count) (nat_le count (longest_of port)) burst in
    record {
      address_is = less address (range_of port) both.0;
      enables_are = most enables all lanes.0;
      all_enabled = λ absent. eqb-true enables all (either port.enables (enables == all) lanes.1 absent);
      some = most 1 count beats.0;
      few = most count (longest_of port) beats.1;
    }

word_fits : (port : HostPort) (text : List ℕ) → port.writes ≡ true → fits_word port text ≡ true → hexadecimal_in text < 2 ^ (8 * port.word_bytes)
word_fits port text writes h = less (hexadecimal_in text) (2 ^ (8 * port.word_bytes)) (subst (λ b. nat_lt (hexadecimal_in text) (2 ^ cond b (8 * port.word_bytes) 0) ≡ true) writes h)

pub write_fits : (port : HostPort) (words : List (List ℕ)) → CanWrite port words → FitsHost port (write_of words)
write_fits port words h =
    let texts = drop 4 words in
    let can = and_parts port.writes (is_burst port (length texts)) h.can in
    let fit = AllPass-from_list_all (fits_word port) texts h.words_fit in
    record {
      writes = can.0;
      command = subst (λ n. FitsCommand port (hexadecimal_in (word_at 2 words)) (hexadecimal_in (word_at 3 words)) n) (sym (length-map texts hexadecimal_in)) (command_fits port words (length texts) h.command can.1);
      fit = All-map (λ word. word < 2 ^ (8 * port.word_bytes)) hexadecimal_in texts (λ k d inside. word_fits port (get_or texts k d) can.0 (fit k d inside));
    }

pub read_fits : (port : HostPort) (words : List (List ℕ)) → CanRead port words → FitsHost port (read_of words)
read_fits port words h =
    let can = and_parts port.reads (is_burst port (count_in (word_at 4 words))) h.can in
    record { reads = can.0; command = command_fits port words (count_in (word_at 4 words)) h.command can.1 }

-- ---- agents and sinks

length-bytes_in : (text : List ℕ) → length (bytes_in text) ≡ length text / 2
length-bytes_in [] = refl
length-bytes_in (high ∷ []) = refl
length-bytes_in (high ∷ low ∷ rest) = let more = length-bytes_in rest in omega arith

pub fill_fits : (port : AgentPort) (words : List (List ℕ)) → CanFill port words → FitsAgent port (fill_of words)
fill_fits port words h =
    let text = word_at 3 words in
    let spelled = (and_parts (is_hexadecimal (word_at 2 words)) (are_bytes text) h.spelled).1 in
    let some = some_byte text spelled in
    let few = few_bytes text spelled in
    let count = length-bytes_in text in
    let within = most (hexadecimal_in (word_at 2 words) + length text / 2) (span_of port) h.within in
    record { some = omega arith; few = omega arith; within = omega arith }

pub code_fits : (port : AgentPort) (words : List (List ℕ)) → port.response ≡ true → CanAnswer port words → FitsAgent port (code_of words)
code_fits port words has h =
    let offset = hexadecimal_in (word_at 2 words) in
    let code = hexadecimal_in (word_at 3 words) in
    let both = and_parts (nat_lt offset (span_of port)) (nat_le code 3) h.within in
    record { answers = has; within = less offset (span_of port) both.0; few = most code 3 both.1 }

pattern_fits : (text : List ℕ) → is_pattern text ≡ true → (1 ≤ length text) × (length text ≤ 64)
unfolding is_pattern
pattern_fits text h =
    let first = and_parts (nat_lt 0 (length text)) _ h in
    let second = and_parts (nat_le (length text) 64) _ first.1 in
    let some = less 0 (length text) first.0 in
    (omega arith, most (length text) 64 second.0)

length-pattern_in : (text : List ℕ) → length (pattern_in text) ≡ length text
unfolding pattern_in
length-pattern_in text = length-map text (λ byte. byte == 49)

pub stall_fits : (has_stall : Bool) (words : List (List ℕ)) → has_stall ≡ true → is_pattern (word_at 2 words) ≡ true → FitsStall has_stall (pattern_of words)
stall_fits has_stall words has h =
    let count = length-pattern_in (word_at 2 words) in
    let within = pattern_fits (word_at 2 words) h in
    record { stalls = has; is_pattern = record { some = omega arith; few = omega arith } }

pub latency_fits : (port : AgentPort) (words : List (List ℕ)) → port.readdatavalid ≡ true → CanWaitFor words → FitsAgent port (Latency (count_in (word_at 2 words)))
latency_fits port words has h =
    let cycles = count_in (word_at 2 words) in
    let both = and_parts (nat_le 1 cycles) (nat_le cycles 255) h.within in
    record { late = has; some = most 1 cycles both.0; few = most cycles 255 both.1 }

-- ---- sources

ports_fit : (port : StreamPort) (beat : SourceBeat) → fits_ports port beat ≡ true → FitsPorts port beat
ports_fit port beat h =
    let word = and_parts (nat_lt beat.word (2 ^ (port.symbols * port.symbol_bits))) _ h in
    let channel = and_parts (fits_channel port beat.channel) _ word.1 in
    let error = and_parts (nat_lt beat.error (2 ^ port.error_bits)) _ channel.1 in
    let channels = and_parts (nat_lt beat.channel (2 ^ port.channel_bits)) (nat_le beat.channel port.max_channel) channel.0 in
    let empty = and_parts (nat_lt beat.empty (2 ^ port.empty_bits)) (nat_lt beat.empty port.symbols) error.1 in
    record {
      word = less beat.word (2 ^ (port.symbols * port.symbol_bits)) word.0;
      channel_bits = less beat.channel (2 ^ port.channel_bits) channels.0;
      channel = most beat.channel port.max_channel channels.1;
      error = less beat.error (2 ^ port.error_bits) error.0;
      empty_bits = less beat.empty (2 ^ port.empty_bits) empty.0;
      empty = less beat.empty port.symbols empty.1;
    }

on_it_goes : (opened : Option ℕ) (beat : SourceBeat) → goes_on opened beat ≡ true → GoesOn opened beat
on_it_goes None beat h = h
on_it_goes (Some channel) beat h = let both = and_parts (not beat.first) (beat.channel == channel) h in (is_false beat.first both.0, eqb-true beat.channel channel both.1)

in_packets : (packets : Bool) (opened : Option ℕ) (beat : SourceBeat) → cond packets (goes_on opened beat) (not beat.first && not beat.last) ≡ true → IsTrue packets → GoesOn opened beat
in_packets true opened beat h has = on_it_goes opened beat h
in_packets false opened beat h has = absurd (false≢true has)

without_packets : (packets : Bool) (opened : Option ℕ) (beat : SourceBeat) → cond packets (goes_on opened beat) (not beat.first && not beat.last) ≡ true → IsFalse packets → IsUnmarked beat
without_packets true opened beat h has = absurd (false≢true (sym has))
without_packets false opened beat h has = let both = and_parts (not beat.first) (not beat.last) h in record { first = is_false beat.first both.0; last = is_false beat.last both.1 }

pub beat_fits : (port : StreamPort) (opened : Option ℕ) (words : List (List ℕ)) → IsShown port words → keeps_packets port opened (beat_of words) ≡ true → FitsBeat port opened (beat_of words)
beat_fits port opened words shown h =
    let beat = beat_of words in
    let both = and_parts (is_marked_well port opened beat) (beat.last || beat.empty == 0) h in
    record {
      ports = ports_fit port beat shown.fits;
      packet = in_packets port.packets opened beat both.0;
      unmarked = without_packets port.packets opened beat both.0;
      full = λ inside. eqb-true beat.empty 0 (either beat.last (beat.empty == 0) both.1 inside);
    }
