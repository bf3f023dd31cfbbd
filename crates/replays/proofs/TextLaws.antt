-- Texts and waves are replayed or refused, never both, and for one reason.
use Rattle.std.proofs.Common.{◌≡◌, ℕ, ◌⊎◌, inl, inr, ⊎_elim, List, refl, sym, ap, subst, ◌∙◌}
use Rattle.std.proofs.lemmas.Option.{same_Some}
use Rattle.netlist.specs.Netlists.{Netlist, IsModule}
use Rattle.verilog_writer.specs.Text.{text_of}
use Rattle.verilog_forms.specs.Forms.{HasFault}
use Rattle.verilog_forms.specs.Rules.{number_of}
use Rattle.verilog_forms.specs.WholeTexts.{module_form}
use Rattle.verilog_forms.specs.declared.rule.Rule.{Rule}
use Rattle.verilog_forms.specs.declared.rule.Rule.TheVariants as rule
use Rattle.verilog_reader.specs.Faults.{IsTextFault}
use Rattle.verilog_reader.specs.declared.reading.TextFault.TheVariants as read
use Rattle.replays.specs.declared.faults.ReplayFault.{ReplayFault}
use Rattle.replays.specs.declared.faults.ReplayFault.TheVariants as replay
use Rattle.replays.specs.Replays.{CanReplay, IsReplayOf, IsReplayFault}
use Rattle.replays.specs.Texts.{IsTextWith, CanReplayText, IsReplayOfText, IsReplayTextFault}

-- what is known of a text
pub record IsJudgedText (text : List ℕ) : Type 0 where
  pub either : ((one : Netlist) × IsModule one × (text ≡ text_of one)) ⊎ ((at : ℕ) × (broken : Rule) × HasFault module_form text at broken)
  pub never_both : (one : Netlist) (at : ℕ) (broken : Rule) → IsModule one → HasFault module_form (text_of one) at broken → ⊥
  pub one_fault : (at place : ℕ) (broken other : Rule) → HasFault module_form text at broken → HasFault module_form text place other → (at ≡ place) × (broken ≡ other)
  pub one_module : (one other : Netlist) → IsModule one → IsModule other → text_of one ≡ text_of other → one ≡ other

-- and of waves, on each module
pub record AreJudgedWaves (waves : List ℕ) : Type 0 where
  pub either : (netlist : Netlist) → CanReplay netlist waves ⊎ ((fault : ReplayFault) × IsReplayFault netlist waves fault)
  pub never_both : (netlist : Netlist) (fault : ReplayFault) → CanReplay netlist waves → IsReplayFault netlist waves fault → ⊥
  pub one_fault : (netlist : Netlist) (one other : ReplayFault) → IsReplayFault netlist waves one → IsReplayFault netlist waves other → one ≡ other

-- a text has one module
same_module : (text : List ℕ) (P Q : Netlist → Type 0) → IsJudgedText text → (one : IsTextWith text P) (other : IsTextWith text Q) → one.netlist ≡ other.netlist
same_module text P Q law one other = law.one_module one.netlist other.netlist one.is_module other.is_module (sym one.is_text ∙ other.is_text)

-- and no fault
faultless : (text : List ℕ) (P : Netlist → Type 0) (at : ℕ) (broken : Rule) → IsJudgedText text → IsTextWith text P → HasFault module_form text at broken → ⊥
faultless text P at broken law is fault =
    law.never_both is.netlist at broken is.is_module (subst (λ (t : List ℕ). HasFault module_form t at broken) is.is_text fault)

by_rule : (text waves : List ℕ) (at : ℕ) (broken : Rule) → HasFault module_form text at broken → (fault : ReplayFault) × IsReplayTextFault text waves fault
by_rule text waves at rule.OtherByte h = (replay.TextRefused at 1, (rule.OtherByte, refl, h))
by_rule text waves at rule.Name h = (replay.TextRefused at 2, (rule.Name, refl, h))
by_rule text waves at rule.Width h = (replay.TextRefused at 3, (rule.Width, refl, h))
by_rule text waves at rule.Spelling h = (replay.TextRefused at 4, (rule.Spelling, refl, h))
by_rule text waves at rule.NotThere h = (replay.TextRefused at 5, (rule.NotThere, refl, h))
by_rule text waves at rule.Bounds h = (replay.TextRefused at 6, (rule.Bounds, refl, h))
by_rule text waves at rule.Depth h = (replay.TextRefused at 7, (rule.Depth, refl, h))
by_rule text waves at rule.Order h = (replay.TextRefused at 8, (rule.Order, refl, h))
by_rule text waves at rule.AfterEnd h = (replay.TextRefused at 9, (rule.AfterEnd, refl, h))
by_rule text waves at rule.TooManyNets h = (replay.TooManyNets, (at, h))

-- a fault of the waves on the text's module
pub with_module : (text waves : List ℕ) (netlist : Netlist) (fault : ReplayFault) → IsModule netlist → text ≡ text_of netlist → IsReplayFault netlist waves fault → IsReplayTextFault text waves fault
with_module text waves netlist (replay.TextRefused byte n) sound is h = absurd h
with_module text waves netlist replay.TooManyNets sound is h = absurd h
with_module text waves netlist (replay.WavesRefused line n) sound is h = record { netlist = netlist; is_module = sound; is_text = is; holds = h }
with_module text waves netlist (replay.TooManyValues count) sound is h = record { netlist = netlist; is_module = sound; is_text = is; holds = h }
with_module text waves netlist replay.NoMemory sound is h = absurd h

pub either : (text waves : List ℕ) → IsJudgedText text → AreJudgedWaves waves → CanReplayText text waves ⊎ ((fault : ReplayFault) × IsReplayTextFault text waves fault)
either text waves law on = ⊎_elim
    (λ m. ⊎_elim
    (λ can. inl record { netlist = m.0; is_module = m.1; is_text = m.2; holds = can })
    (λ f. inr (f.0, with_module text waves m.0 f.0 m.1 m.2 f.1))
    (on.either m.0))
    (λ f. inr (by_rule text waves f.0 f.1 f.2))
    law.either

never_on : (text waves : List ℕ) (fault : ReplayFault) → IsJudgedText text → AreJudgedWaves waves → CanReplayText text waves → IsTextWith text (λ netlist. IsReplayFault netlist waves fault) → ⊥
never_on text waves fault law on can is =
    let same = same_module text _ _ law is can in
    on.never_both can.netlist fault can.holds (subst (λ (netlist : Netlist). IsReplayFault netlist waves fault) same is.holds)

pub never : (text waves : List ℕ) (fault : ReplayFault) → IsJudgedText text → AreJudgedWaves waves → CanReplayText text waves → IsReplayTextFault text waves fault → ⊥
never text waves (replay.TextRefused byte n) law on can is = faultless text _ byte is.0 law can is.2
never text waves replay.TooManyNets law on can is = faultless text _ is.0 rule.TooManyNets law can is.1
never text waves (replay.WavesRefused line n) law on can is = never_on text waves (replay.WavesRefused line n) law on can is
never text waves (replay.TooManyValues count) law on can is = never_on text waves (replay.TooManyValues count) law on can is
never text waves replay.NoMemory law on can is = never_on text waves replay.NoMemory law on can is

one_on : (text waves : List ℕ) (one other : ReplayFault) → IsJudgedText text → AreJudgedWaves waves → IsTextWith text (λ netlist. IsReplayFault netlist waves one) → IsTextWith text (λ netlist. IsReplayFault netlist waves other) → one ≡ other
one_on text waves one other law on f g =
    on.one_fault g.netlist one other (subst (λ (netlist : Netlist). IsReplayFault netlist waves one) (same_module text _ _ law f g) f.holds) g.holds

same_rule : (text : List ℕ) (byte place n m : ℕ) → IsJudgedText text → IsTextFault text (read.Refused byte n) → IsTextFault text (read.Refused place m) → replay.TextRefused byte n ≡ replay.TextRefused place m
same_rule text byte place n m law f g =
    let same = law.one_fault byte place f.0 g.0 f.2 g.2 in
    ap (λ (k : ℕ). replay.TextRefused k n) same.0 ∙ ap (replay.TextRefused place) (same_Some n m (sym f.1 ∙ ap number_of same.1 ∙ g.1))

no_rule : (text : List ℕ) (byte n : ℕ) → IsJudgedText text → IsTextFault text (read.Refused byte n) → IsTextFault text read.TooManyNets → ⊥
no_rule text byte n law f g =
    let same = law.one_fault byte g.0 f.0 rule.TooManyNets f.2 g.1 in
    let is = sym f.1 ∙ ap number_of same.1 in
    cc

pub one_fault : (text waves : List ℕ) (one other : ReplayFault) → IsJudgedText text → AreJudgedWaves waves → IsReplayTextFault text waves one → IsReplayTextFault text waves other → one ≡ other
one_fault text waves (replay.TextRefused byte n) (replay.TextRefused place m) law on f g = same_rule text byte place n m law f g
one_fault text waves (replay.TextRefused byte n) replay.TooManyNets law on f g = absurd (no_rule text byte n law f g)
one_fault text waves (replay.TextRefused byte n) (replay.WavesRefused line m) law on f g = absurd (faultless text _ byte f.0 law g f.2)
one_fault text waves (replay.TextRefused byte n) (replay.TooManyValues count) law on f g = absurd (faultless text _ byte f.0 law g f.2)
one_fault text waves (replay.TextRefused byte n) replay.NoMemory law on f g = absurd (faultless text _ byte f.0 law g f.2)
one_fault text waves replay.TooManyNets (replay.TextRefused place m) law on f g = absurd (no_rule text place m law g f)
one_fault text waves replay.TooManyNets replay.TooManyNets law on f g = refl
one_fault text waves replay.TooManyNets (replay.WavesRefused line m) law on f g = absurd (faultless text _ f.0 rule.TooManyNets law g f.1)
one_fault text waves replay.TooManyNets (replay.TooManyValues count) law on f g = absurd (faultless text _ f.0 rule.TooManyNets law g f.1)
one_fault text waves replay.TooManyNets replay.NoMemory law on f g = absurd (faultless text _ f.0 rule.TooManyNets law g f.1)
one_fault text waves (replay.WavesRefused line n) (replay.TextRefused place m) law on f g = absurd (faultless text _ place g.0 law f g.2)
one_fault text waves (replay.WavesRefused line n) replay.TooManyNets law on f g = absurd (faultless text _ g.0 rule.TooManyNets law f g.1)
one_fault text waves (replay.WavesRefused line n) (replay.WavesRefused place m) law on f g = one_on text waves (replay.WavesRefused line n) (replay.WavesRefused place m) law on f g
one_fault text waves (replay.WavesRefused line n) (replay.TooManyValues count) law on f g = one_on text waves (replay.WavesRefused line n) (replay.TooManyValues count) law on f g
one_fault text waves (replay.WavesRefused line n) replay.NoMemory law on f g = absurd g.holds
one_fault text waves (replay.TooManyValues number) (replay.TextRefused place m) law on f g = absurd (faultless text _ place g.0 law f g.2)
one_fault text waves (replay.TooManyValues number) replay.TooManyNets law on f g = absurd (faultless text _ g.0 rule.TooManyNets law f g.1)
one_fault text waves (replay.TooManyValues number) (replay.WavesRefused place m) law on f g = one_on text waves (replay.TooManyValues number) (replay.WavesRefused place m) law on f g
one_fault text waves (replay.TooManyValues number) (replay.TooManyValues count) law on f g = one_on text waves (replay.TooManyValues number) (replay.TooManyValues count) law on f g
one_fault text waves (replay.TooManyValues number) replay.NoMemory law on f g = absurd g.holds
one_fault text waves replay.NoMemory other law on f g = absurd f.holds

-- a replay has one text
pub one_trace : (text waves one other : List ℕ) → IsJudgedText text → ((netlist : Netlist) → IsModule netlist → IsReplayOf netlist waves one → IsReplayOf netlist waves other → one ≡ other)
    → IsReplayOfText text waves one → IsReplayOfText text waves other → one ≡ other
one_trace text waves one other law same f g =
    same g.netlist g.is_module (subst (λ (netlist : Netlist). IsReplayOf netlist waves one) (same_module text _ _ law f g) f.holds) g.holds
