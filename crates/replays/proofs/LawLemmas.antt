-- Waves are replayed or refused, never both, and for one reason.
use Rattle.std.proofs.Common.{◌≡◌, ℕ, ◌^◌, ◌⊎◌, inl, inr, Bool, true, false, List, refl, sym, ap, ◌∙◌, arith}
use Rattle.std.specs.Prelude.{nat_lt}
use Rattle.std.proofs.lemmas.Bool.{ltb-false}
use Rattle.std.proofs.lemmas.Bool.Decides.{Decides-ltb}
use Rattle.av_base.specs.Word.{Word}
use Rattle.netlist.specs.Netlists.{Netlist}
use Rattle.waves.specs.Rows.{input_widths}
use Rattle.waves.specs.Waves.{IsWavesOf, IsFaultOf}
use Rattle.waves.specs.declared.faults.WavesRule.{WavesRule}
use Rattle.waves.specs.declared.faults.WavesFault.TheVariants as waves
use Rattle.replays.specs.declared.faults.ReplayFault.{ReplayFault}
use Rattle.replays.specs.declared.faults.ReplayFault.TheVariants as replay
use Rattle.replays.specs.Replays.{AreWaves, value_count, CanReplay, IsReplayFault}

by_count : (netlist : Netlist) (bytes : List ℕ) (rows : List (List Word)) → AreWaves netlist bytes rows → (b : Bool) → nat_lt (2 ^ 32) (value_count netlist rows) ≡ b
    → CanReplay netlist bytes ⊎ ((fault : ReplayFault) × IsReplayFault netlist bytes fault)
by_count netlist bytes rows are true e =
    inr (replay.TooManyValues (value_count netlist rows), record { rows = rows; are_waves = are; count_is = refl; passed = (Decides-ltb (2 ^ 32) (value_count netlist rows)).0 e })
by_count netlist bytes rows are false e = inl record { rows = rows; are_waves = are; few = ltb-false (2 ^ 32) (value_count netlist rows) e }

pub either : (netlist : Netlist) (bytes : List ℕ)
    → ((rows : List (List Word)) × AreWaves netlist bytes rows) ⊎ ((line : ℕ) × (rule : WavesRule) × IsFaultOf (input_widths netlist.ports) bytes (waves.Refused line rule))
    → CanReplay netlist bytes ⊎ ((fault : ReplayFault) × IsReplayFault netlist bytes fault)
either netlist bytes (inl w) = by_count netlist bytes w.0 w.1 (nat_lt (2 ^ 32) (value_count netlist w.0)) refl
either netlist bytes (inr f) = inr (replay.WavesRefused f.0 f.1, f.2)

-- what is known of waves files of these widths
pub record IsJudged (widths bytes : List ℕ) : Type 0 where
  pub never_both : (rows : List (List Word)) (line : ℕ) (rule : WavesRule) → IsWavesOf widths bytes rows → IsFaultOf widths bytes (waves.Refused line rule) → ⊥
  pub one_reading : (one other : List (List Word)) → IsWavesOf widths bytes one → IsWavesOf widths bytes other → one ≡ other
  pub one_fault : (line other : ℕ) (rule second : WavesRule) → IsFaultOf widths bytes (waves.Refused line rule) → IsFaultOf widths bytes (waves.Refused other second) → (line ≡ other) × (rule ≡ second)

pub never : (netlist : Netlist) (bytes : List ℕ) (fault : ReplayFault) → IsJudged (input_widths netlist.ports) bytes → CanReplay netlist bytes → IsReplayFault netlist bytes fault → ⊥
never netlist bytes (replay.WavesRefused line rule) law can is = law.never_both can.rows line rule can.are_waves is
never netlist bytes (replay.TooManyValues count) law can many =
    let same = ap (value_count netlist) (law.one_reading can.rows many.rows can.are_waves many.are_waves) in
    let few = can.few in
    let passed = many.passed in
    let is = many.count_is in
    absurd (omega arith)
never netlist bytes (replay.TextRefused byte rule) law can is = is
never netlist bytes replay.TooManyNets law can is = is
never netlist bytes replay.NoMemory law can is = is

pub one_fault : (netlist : Netlist) (bytes : List ℕ) (one other : ReplayFault) → IsJudged (input_widths netlist.ports) bytes → IsReplayFault netlist bytes one → IsReplayFault netlist bytes other
    → one ≡ other
one_fault netlist bytes (replay.WavesRefused line rule) (replay.WavesRefused place second) law f g =
    let same = law.one_fault line place rule second f g in
    ap (λ (n : ℕ). replay.WavesRefused n rule) same.0 ∙ ap (replay.WavesRefused place) same.1
one_fault netlist bytes (replay.WavesRefused line rule) (replay.TooManyValues count) law f many = absurd (law.never_both many.rows line rule many.are_waves f)
one_fault netlist bytes (replay.TooManyValues count) (replay.WavesRefused line rule) law many g = absurd (law.never_both many.rows line rule many.are_waves g)
one_fault netlist bytes (replay.TooManyValues count) (replay.TooManyValues number) law many more =
    ap replay.TooManyValues (many.count_is ∙ ap (value_count netlist) (law.one_reading many.rows more.rows many.are_waves more.are_waves) ∙ sym more.count_is)
one_fault netlist bytes (replay.TextRefused byte rule) other law f g = absurd f
one_fault netlist bytes replay.TooManyNets other law f g = absurd f
one_fault netlist bytes replay.NoMemory other law f g = absurd f
one_fault netlist bytes one (replay.TextRefused byte rule) law f g = absurd g
one_fault netlist bytes one replay.TooManyNets law f g = absurd g
one_fault netlist bytes one replay.NoMemory law f g = absurd g
