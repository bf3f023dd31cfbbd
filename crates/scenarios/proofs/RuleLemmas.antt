-- What statements that break no rule keep.
use Rattle.std.proofs.Common.{◌≡◌, ℕ, Bool, true, false, not, List, [], ◌∷◌, length, drop, None, refl}
use Rattle.std.specs.Prelude.{◌&&◌}
use Rattle.std.specs.List.{list_all}
use Rattle.std.proofs.lemmas.Bool.{and_parts}
use Rattle.iface_roles.specs.declared.records.HostPort.{HostPort}
use Rattle.iface_roles.specs.declared.records.AgentPort.{AgentPort}
use Rattle.iface_roles.specs.declared.records.StreamPort.{StreamPort}
use Rattle.scenario_tables.specs.declared.statements.SourceStatement.{SourceStatement}
use Rattle.waves.specs.Words.{word_at}
use Rattle.waves.specs.Spelling.{is_count, count_in, is_pattern}
use Rattle.scenarios.specs.declared.faults.ScenarioRule.{ScenarioRule}
use Rattle.scenarios.specs.declared.faults.ScenarioRule.TheVariants.{Spelling, Ranges, Beginning, Transfers, Packets, Limits}
use Rattle.scenarios.specs.Rules.{first_broken}
use Rattle.scenarios.specs.Hosts.{CanWrite, CanRead, is_rest, is_full, spells_write, spells_read, can_write, can_read, fits_command, fits_word, write_rule, read_rule, rest_rule}
use Rattle.scenarios.specs.Agents.{CanFill, CanAnswer, CanWaitFor, spells_fill, fits_fill, spells_code, fits_code, is_latency, fill_rule, code_rule, stall_rule, latency_rule}
use Rattle.scenarios.specs.Streams.{IsShown, spells_beat, fits_ports, beat_of, opened_by, keeps_packets, beat_rule}

-- the first of the rules is kept, and so are those behind it
passed : (broken : Bool) (rule : ScenarioRule) (later : List (Bool × ScenarioRule)) → first_broken ((broken, rule) ∷ later) ≡ None → (broken ≡ false) × (first_broken later ≡ None)
passed true rule later e = cc
passed false rule later e = (refl, e)

not_false : (b : Bool) → not b ≡ false → b ≡ true
not_false true e = refl
not_false false e = cc

kept : (b : Bool) (rule : ScenarioRule) (later : List (Bool × ScenarioRule)) → first_broken ((not b, rule) ∷ later) ≡ None → (b ≡ true) × (first_broken later ≡ None)
kept b rule later e = let both = passed (not b) rule later e in (not_false b both.0, both.1)

-- rules on spelling, on ranges, on the beginning, on the statement's own, and on room
five : (a b c d e : Bool) (p q r s t : ScenarioRule) → first_broken ((not a, p) ∷ (not b, q) ∷ (c, r) ∷ (not d, s) ∷ (e, t) ∷ []) ≡ None → (a ≡ true) × (b ≡ true) × (c ≡ false) × (d ≡ true) × (e ≡ false)
five a b c d e p q r s t h =
    let one = kept a p ((not b, q) ∷ (c, r) ∷ (not d, s) ∷ (e, t) ∷ []) h in
    let two = kept b q ((c, r) ∷ (not d, s) ∷ (e, t) ∷ []) one.1 in
    let three = passed c r ((not d, s) ∷ (e, t) ∷ []) two.1 in
    let four = kept d s ((e, t) ∷ []) three.1 in
    let five = passed e t [] four.1 in
    (one.0, two.0, three.0, four.0, five.0)

four : (a b c e : Bool) (p q r t : ScenarioRule) → first_broken ((not a, p) ∷ (not b, q) ∷ (c, r) ∷ (e, t) ∷ []) ≡ None → (a ≡ true) × (b ≡ true) × (c ≡ false) × (e ≡ false)
four a b c e p q r t h =
    let one = kept a p ((not b, q) ∷ (c, r) ∷ (e, t) ∷ []) h in
    let two = kept b q ((c, r) ∷ (e, t) ∷ []) one.1 in
    let three = passed c r ((e, t) ∷ []) two.1 in
    let four = passed e t [] three.1 in
    (one.0, two.0, three.0, four.0)

three : (a c e : Bool) (p r t : ScenarioRule) → first_broken ((not a, p) ∷ (c, r) ∷ (e, t) ∷ []) ≡ None → (a ≡ true) × (c ≡ false) × (e ≡ false)
three a c e p r t h =
    let one = kept a p ((c, r) ∷ (e, t) ∷ []) h in
    let two = passed c r ((e, t) ∷ []) one.1 in
    let three = passed e t [] two.1 in
    (one.0, two.0, three.0)

-- the second of three
pub second : (a b c : Bool) (p q r : ScenarioRule) → first_broken ((not a, p) ∷ (not b, q) ∷ (c, r) ∷ []) ≡ None → b ≡ true
second a b c p q r h = (kept b q ((c, r) ∷ []) (kept a p ((not b, q) ∷ (c, r) ∷ []) h).1).0

-- besides, it isn't early, and there is room for one statement more
pub record HasRoom (early full : Bool) : Type 0 where
  pub begun : early ≡ false
  pub room : full ≡ false

pub written : (port : HostPort) (early : Bool) (count : ℕ) (words : List (List ℕ)) → write_rule port early count words ≡ None → CanWrite port words × HasRoom early (is_full count)
unfolding write_rule
written port early count words e =
    let kept = five (spells_write words) (fits_command port words && list_all (fits_word port) (drop 4 words)) early (can_write port (length (drop 4 words))) (is_full count) Spelling Ranges Beginning Transfers Limits e in
    let both = and_parts (fits_command port words) (list_all (fits_word port) (drop 4 words)) kept.1 in
    (record { spelled = kept.0; command = both.0; words_fit = both.1; can = kept.3 }, record { begun = kept.2; room = kept.4 })

pub asked : (port : HostPort) (early : Bool) (count : ℕ) (words : List (List ℕ)) → read_rule port early count words ≡ None → CanRead port words × HasRoom early (is_full count)
unfolding read_rule
asked port early count words e =
    let kept = five (spells_read words) (fits_command port words) early (can_read port (count_in (word_at 4 words))) (is_full count) Spelling Ranges Beginning Transfers Limits e in
    (record { spelled = kept.0; command = kept.1; can = kept.3 }, record { begun = kept.2; room = kept.4 })

pub record IsWait (words : List (List ℕ)) : Type 0 where
  pub spelled : is_count (word_at 2 words) ≡ true
  pub rest : is_rest (count_in (word_at 2 words)) ≡ true

pub waited : (early : Bool) (count : ℕ) (words : List (List ℕ)) → rest_rule early count words ≡ None → IsWait words × HasRoom early (is_full count)
unfolding rest_rule
waited early count words e =
    let kept = four (is_count (word_at 2 words)) (is_rest (count_in (word_at 2 words))) early (is_full count) Spelling Ranges Beginning Limits e in
    (record { spelled = kept.0; rest = kept.1 }, record { begun = kept.2; room = kept.3 })

pub filled : (port : AgentPort) (early : Bool) (count : ℕ) (words : List (List ℕ)) → fill_rule port early count words ≡ None → CanFill port words × HasRoom early (is_full count)
unfolding fill_rule
filled port early count words e =
    let kept = four (spells_fill words) (fits_fill port words) early (is_full count) Spelling Ranges Beginning Limits e in
    (record { spelled = kept.0; within = kept.1 }, record { begun = kept.2; room = kept.3 })

pub coded : (port : AgentPort) (early : Bool) (count : ℕ) (words : List (List ℕ)) → code_rule port early count words ≡ None → CanAnswer port words × HasRoom early (is_full count)
unfolding code_rule
coded port early count words e =
    let kept = four (spells_code words) (fits_code port words) early (is_full count) Spelling Ranges Beginning Limits e in
    (record { spelled = kept.0; within = kept.1 }, record { begun = kept.2; room = kept.3 })

pub stalled : (early no_room : Bool) (words : List (List ℕ)) → stall_rule early no_room words ≡ None → (is_pattern (word_at 2 words) ≡ true) × HasRoom early no_room
unfolding stall_rule
stalled early no_room words e =
    let kept = three (is_pattern (word_at 2 words)) early no_room Spelling Beginning Limits e in
    (kept.0, record { begun = kept.1; room = kept.2 })

pub late : (early no_room : Bool) (words : List (List ℕ)) → latency_rule early no_room words ≡ None → CanWaitFor words × HasRoom early no_room
unfolding latency_rule
late early no_room words e =
    let kept = four (is_count (word_at 2 words)) (is_latency (count_in (word_at 2 words))) early no_room Spelling Ranges Beginning Limits e in
    (record { spelled = kept.0; within = kept.1 }, record { begun = kept.2; room = kept.3 })

pub sent : (port : StreamPort) (early : Bool) (script : List SourceStatement) (words : List (List ℕ)) → beat_rule port early script words ≡ None
    → IsShown port words × (keeps_packets port (opened_by None script) (beat_of words) ≡ true) × HasRoom early (is_full (length script))
unfolding beat_rule
sent port early script words e =
    let kept = five (spells_beat words) (fits_ports port (beat_of words)) early (keeps_packets port (opened_by None script) (beat_of words)) (is_full (length script)) Spelling Ranges Beginning Packets Limits e in
    (record { spelled = kept.0; fits = kept.1 }, kept.3, record { begun = kept.2; room = kept.4 })
