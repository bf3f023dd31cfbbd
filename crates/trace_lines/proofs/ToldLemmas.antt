-- What is told of an agent, by its ports.
use Rattle.std.proofs.Common.{◌≡◌, ℕ, zero, suc, ◌+◌, ◌*◌, ◌%◌, Bool, true, false, nat_eq, [], ◌∷◌, length, IsTrue, IsFalse, refl, ap, ◌∙◌, arith}
use Rattle.std.specs.Prelude.{if◌then◌else◌}
use Rattle.std.proofs.lemmas.Bool.{cond-true, cond-false}
use Rattle.std.proofs.lemmas.List.{length-map}
use Rattle.av_base.specs.Word.{word}
use Rattle.histories.specs.History.{is_raised, numbers}
use Rattle.memory_runs.specs.Views.{levels_at}
use Rattle.memory_runs.specs.Commands.{Burst, Transfer, agent_accepts, burst_before, read_beat, read_transfer, write_transfer}
use Rattle.trace_lines.specs.Lines.{write_line, read_line}
use Rattle.trace_lines.specs.Told.{AgentEnd, taken_at, told_of_agent, told_of_transfer, read_address, write_address}
use Rattle.trace_lines.specs.Sums.{beats_taken_in}

length_numbers : (first count : ℕ) → length (numbers first count) ≡ count
length_numbers first zero = refl
length_numbers first (suc count) = ap suc (length_numbers (suc first) count)

abbrev burst_at : ℕ → AgentEnd → Burst
burst_at c agent = burst_before agent.side.shape agent.view.signals (agent_accepts agent.side agent.view) c

abbrev write_at : ℕ → AgentEnd → Transfer
write_at c agent = write_transfer agent.side.shape (levels_at agent.view.signals c) (burst_at c agent)

abbrev read_at : ℕ → AgentEnd → Transfer
read_at c agent = read_transfer agent.side.shape (levels_at agent.view.signals c)

a_write : (c : ℕ) (agent : AgentEnd) → IsTrue (is_raised (agent.view.write c)) → taken_at c agent ≡ write_at c agent
a_write c agent writes = cond-true (is_raised (agent.view.write c)) (write_at c agent) (read_at c agent) writes

a_read : (c : ℕ) (agent : AgentEnd) → IsFalse (is_raised (agent.view.write c)) → taken_at c agent ≡ read_at c agent
a_read c agent reads = cond-false (is_raised (agent.view.write c)) (write_at c agent) (read_at c agent) reads

-- the address of a beat of a write
beat_address : (begins : Bool) (named first done word_bytes : ℕ)
    → (if begins then named else first) + (if begins then 0 else done) * word_bytes ≡ (if begins then named else first + done * word_bytes)
beat_address true named first done word_bytes = omega arith
beat_address false named first done word_bytes = refl

pub nothing_told : (c : ℕ) (agent : AgentEnd) → IsFalse (agent_accepts agent.side agent.view c) → (told_of_agent c agent ≡ []) × (beats_taken_in c agent ≡ 0)
nothing_told c agent idle =
    (cond-false (agent_accepts agent.side agent.view c) (told_of_transfer c agent (taken_at c agent)) [] idle, cond-false (agent_accepts agent.side agent.view c) (length (taken_at c agent).beats) 0 idle)

pub write_told : (c : ℕ) (agent : AgentEnd) → IsTrue (agent_accepts agent.side agent.view c) → IsTrue (is_raised (agent.view.write c))
    → told_of_agent c agent ≡ write_line c agent.name (agent.view.grant c) (write_address c agent % agent.side.span) (word agent.side.word_bytes (agent.view.enables c)) (word (8 * agent.side.word_bytes) (agent.view.word c)) ∷ []
write_told c agent takes writes =
    let burst = burst_at c agent in
    cond-true (agent_accepts agent.side agent.view c) (told_of_transfer c agent (taken_at c agent)) [] takes
    ∙ ap (λ (transfer : Transfer). told_of_transfer c agent transfer) (a_write c agent writes)
    ∙ ap (λ address. write_line c agent.name (agent.view.grant c) (address % agent.side.span) (word agent.side.word_bytes (agent.view.enables c)) (word (8 * agent.side.word_bytes) (agent.view.word c)) ∷ [])
    (beat_address (nat_eq burst.left 0) (read_address c agent) burst.first burst.done agent.side.word_bytes)

words_asked : (c : ℕ) (agent : AgentEnd) → length (read_at c agent).beats ≡ agent.view.count c
words_asked c agent = length-map (numbers 0 (agent.view.count c)) (read_beat agent.side.shape (levels_at agent.view.signals c)) ∙ length_numbers 0 (agent.view.count c)

pub read_told : (c : ℕ) (agent : AgentEnd) → IsTrue (agent_accepts agent.side agent.view c) → IsFalse (is_raised (agent.view.write c))
    → told_of_agent c agent ≡ read_line c agent.name (agent.view.grant c) (read_address c agent % agent.side.span) (word agent.side.word_bytes (agent.view.enables c)) (agent.view.count c) ∷ []
read_told c agent takes reads =
    cond-true (agent_accepts agent.side agent.view c) (told_of_transfer c agent (taken_at c agent)) [] takes
    ∙ ap (λ (transfer : Transfer). told_of_transfer c agent transfer) (a_read c agent reads)
    ∙ ap (λ count. read_line c agent.name (agent.view.grant c) (read_address c agent % agent.side.span) (word agent.side.word_bytes (agent.view.enables c)) count ∷ []) (words_asked c agent)

pub one_beat : (c : ℕ) (agent : AgentEnd) → IsTrue (agent_accepts agent.side agent.view c) → IsTrue (is_raised (agent.view.write c)) → beats_taken_in c agent ≡ 1
one_beat c agent takes writes =
    cond-true (agent_accepts agent.side agent.view c) (length (taken_at c agent).beats) 0 takes ∙ ap (λ (transfer : Transfer). length transfer.beats) (a_write c agent writes)

pub so_many_words : (c : ℕ) (agent : AgentEnd) → IsTrue (agent_accepts agent.side agent.view c) → IsFalse (is_raised (agent.view.write c)) → beats_taken_in c agent ≡ agent.view.count c
so_many_words c agent takes reads =
    cond-true (agent_accepts agent.side agent.view c) (length (taken_at c agent).beats) 0 takes ∙ ap (λ (transfer : Transfer). length transfer.beats) (a_read c agent reads) ∙ words_asked c agent
