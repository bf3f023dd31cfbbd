-- The packet that is open behind statements.
use Rattle.std.proofs.Common.{◌≡◌, ℕ, ◌+◌, ◌-◌, ◌<◌, ◌≤◌, List, [], ◌∷◌, ◌++◌, length, take, get_or, Option, None, refl, ap, ◌∙◌, arith}
use Rattle.std.proofs.lemmas.List.{take_more}
use Rattle.scenario_tables.specs.declared.statements.SourceBeat.{SourceBeat}
use Rattle.scenario_tables.specs.declared.statements.SourceStatement.{SourceStatement}
use Rattle.scenario_tables.specs.declared.statements.SourceStatement.TheVariants.{Beat, Gap}
use Rattle.scenario_tables.specs.Statements.{open_behind}
use Rattle.scenarios.specs.Streams.{opened_by}

pub opened_by-append : (opened : Option ℕ) (script more : List SourceStatement) → opened_by opened (script ++ more) ≡ opened_by (opened_by opened script) more
opened_by-append opened [] more = refl
opened_by-append opened (Beat beat ∷ later) more = opened_by-append (open_behind beat) later more
opened_by-append opened (Gap cycles ∷ later) more = opened_by-append opened later more

last_opened : (script : List SourceStatement) (n : ℕ) (d : SourceStatement) → n < length script → opened_by None (take (n + 1) script) ≡ opened_by (opened_by None (take n script)) (get_or script n d ∷ [])
last_opened script n d h = ap (opened_by None) (take_more script n d h) ∙ opened_by-append None (take n script) (get_or script n d ∷ [])

at_last : (script : List SourceStatement) (count : ℕ) (d : SourceStatement) → 0 < count → count ≤ length script
    → opened_by None (take count script) ≡ opened_by (opened_by None (take (count - 1) script)) (get_or script (count - 1) d ∷ [])
at_last script count d some h =
    let same : count ≡ count - 1 + 1 = omega arith in
    ap (λ n. opened_by None (take n script)) same ∙ last_opened script (count - 1) d (omega arith)

-- a beat at the end decides it
pub behind_beat : (script : List SourceStatement) (count : ℕ) (d : SourceStatement) (beat : SourceBeat) → 0 < count → count ≤ length script → get_or script (count - 1) d ≡ Beat beat
    → opened_by None (take count script) ≡ open_behind beat
behind_beat script count d beat some h e = at_last script count d some h ∙ ap (λ s. opened_by (opened_by None (take (count - 1) script)) (s ∷ [])) e

other : (opened : Option ℕ) (s : SourceStatement) → ((beat : SourceBeat) → s ≡ Beat beat → ⊥) → opened_by opened (s ∷ []) ≡ opened
other opened (Beat beat) none = absurd (none beat refl)
other opened (Gap cycles) none = refl

-- and what is no beat leaves it as it is
pub behind_other : (script : List SourceStatement) (count : ℕ) (d : SourceStatement) → 0 < count → count ≤ length script → ((beat : SourceBeat) → get_or script (count - 1) d ≡ Beat beat → ⊥)
    → opened_by None (take count script) ≡ opened_by None (take (count - 1) script)
behind_other script count d some h none = at_last script count d some h ∙ other (opened_by None (take (count - 1) script)) (get_or script (count - 1) d) none
