-- Bytes are the text of a dump whose rows are written, or are refused.
use Rattle.std.proofs.Common.{◌≡◌, ℕ, ◌^◌, ◌-◌, ◌⊎◌, inl, inr, Bool, true, false, List, [], length, Option, Some, None, refl, sym, ap, ◌∙◌, arith}
use Rattle.std.specs.Prelude.{nat_lt}
use Rattle.std.proofs.lemmas.Bool.{ltb-false, ltb-true}
use Rattle.vcd_text.specs.Text.{DumpValue, dump_text}
use Rattle.vcd_text.specs.Dumps.{IsDump}
use Rattle.vcd_reader.specs.declared.rule.Rule.{Rule}
use Rattle.vcd_reader.specs.Found.{Found}
use Rattle.vcd_reader.specs.Readings.{dump_read, IsDumpText}
use Rattle.vcd_reader.specs.Worked.{fault_in}
use Rattle.vcd_reader.specs.declared.undumps.UndumpFault.{UndumpFault}
use Rattle.vcd_reader.specs.declared.undumps.UndumpFault.TheVariants as undump
use Rattle.vcd_reader.specs.Undumps.{CanUndump, IsUndumpOf, IsUndumpFault, value_count, rows_text}

-- what is known of the reading of all texts
pub record AreJudged : Type 0 where
  pub only : (text rest : List ℕ) (dump : DumpValue) → dump_read text ≡ Found.told dump rest → IsDumpText text dump rest
  pub read : (dump : DumpValue) → IsDump dump → dump_read (dump_text dump) ≡ Found.told dump []
  pub one : (one other : DumpValue) → IsDump one → IsDump other → dump_text one ≡ dump_text other → one ≡ other

by_count : (bytes rest : List ℕ) (dump : DumpValue) → IsDumpText bytes dump rest → (t : Bool) → nat_lt (2 ^ 32) (value_count dump) ≡ t → CanUndump bytes ⊎ ((fault : UndumpFault) × IsUndumpFault bytes fault)
by_count bytes rest dump is true e =
    inr (undump.TooManyValues (value_count dump), record { dump = dump; is_dump = is.is_dump; is_text = is.is; count_is = refl; passed = ltb-true (2 ^ 32) (value_count dump) e })
by_count bytes rest dump is false e = inl (record { dump = dump; is_dump = is.is_dump; is_text = is.is; few = ltb-false (2 ^ 32) (value_count dump) e })

by_found : (bytes : List ℕ) → AreJudged → (found : Found DumpValue) → dump_read bytes ≡ found → CanUndump bytes ⊎ ((fault : UndumpFault) × IsUndumpFault bytes fault)
by_found bytes law (Found.told dump rest) e = by_count bytes rest dump (law.only bytes rest dump e) (nat_lt (2 ^ 32) (value_count dump)) refl
by_found bytes law (Found.broken rest rule) e = inr (undump.Refused (length bytes - length rest) rule, ap (fault_in bytes) e)

pub either : (bytes : List ℕ) → AreJudged → CanUndump bytes ⊎ ((fault : UndumpFault) × IsUndumpFault bytes fault)
either bytes law = by_found bytes law (dump_read bytes) refl

-- the text of a dump has no fault
no_fault : (bytes : List ℕ) (dump : DumpValue) (byte : ℕ) (rule : Rule) → AreJudged → IsDump dump → bytes ≡ dump_text dump → fault_in bytes (dump_read bytes) ≡ Some (byte, rule) → ⊥
no_fault bytes dump byte rule law is same e = never (sym (ap (fault_in bytes) (ap dump_read same ∙ law.read dump is)) ∙ e)
  where
    never : ◌≡◌ {A = Option (ℕ × Rule)} None (Some (byte, rule)) → ⊥
    never e = cc

pub never : (bytes : List ℕ) (fault : UndumpFault) → AreJudged → CanUndump bytes → IsUndumpFault bytes fault → ⊥
never bytes (undump.Refused byte rule) law can is = no_fault bytes can.dump byte rule law can.is_dump can.is_text is
never bytes (undump.TooManyValues count) law can many =
    let same = law.one can.dump many.dump can.is_dump many.is_dump (sym can.is_text ∙ many.is_text) in
    let few = can.few in
    let passed = many.passed in
    let is = many.count_is in
    let counts = ap value_count same in
    absurd (omega arith)
never bytes undump.NoMemory law can is = is

same_pair : (one other : ℕ × Rule) → Some one ≡ Some other → one ≡ other
same_pair one other e = cc

same_place : (byte place : ℕ) (rule other : Rule) (o : Option (ℕ × Rule)) → o ≡ Some (byte, rule) → o ≡ Some (place, other) → undump.Refused byte rule ≡ undump.Refused place other
same_place byte place rule other o e f =
    let both : ◌≡◌ {A = Option (ℕ × Rule)} (Some (byte, rule)) (Some (place, other)) = sym e ∙ f in
    let pair = same_pair (byte, rule) (place, other) both in
    let at : byte ≡ place = ap (λ (p : ℕ × Rule). p.0) pair in
    let same : rule ≡ other = ap (λ (p : ℕ × Rule). p.1) pair in
    ap (λ (n : ℕ). undump.Refused n rule) at ∙ ap (undump.Refused place) same

pub one_fault : (bytes : List ℕ) (one other : UndumpFault) → AreJudged → IsUndumpFault bytes one → IsUndumpFault bytes other → one ≡ other
one_fault bytes (undump.Refused byte rule) (undump.Refused place other) law f g = same_place byte place rule other (fault_in bytes (dump_read bytes)) f g
one_fault bytes (undump.Refused byte rule) (undump.TooManyValues count) law f many = absurd (no_fault bytes many.dump byte rule law many.is_dump many.is_text f)
one_fault bytes (undump.TooManyValues count) (undump.Refused byte rule) law many g = absurd (no_fault bytes many.dump byte rule law many.is_dump many.is_text g)
one_fault bytes (undump.TooManyValues count) (undump.TooManyValues number) law many more =
    ap undump.TooManyValues (many.count_is ∙ ap value_count (law.one many.dump more.dump many.is_dump more.is_dump (sym many.is_text ∙ more.is_text)) ∙ sym more.count_is)
one_fault bytes undump.NoMemory other law f g = absurd f
one_fault bytes one undump.NoMemory law f g = absurd g

pub one_text : (bytes one other : List ℕ) → AreJudged → IsUndumpOf bytes one → IsUndumpOf bytes other → one ≡ other
one_text bytes one other law x y = x.rows ∙ ap rows_text (law.one x.dump y.dump x.is_dump y.is_dump (sym x.is_text ∙ y.is_text)) ∙ sym y.rows
