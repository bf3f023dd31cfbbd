-- Commands of one beat each, joined by `more`.
use Rattle.std.proofs.Common.{ℕ, suc, ◌≡◌, ◌+◌, ◌-◌, ◌*◌, ◌%◌, [], ◌∷◌, ◌++◌, List, Bool, true, false, not, ◌&&◌, ◌||◌, arith, refl, sym, ap, ap₂, ◌∙◌, append_assoc, append-nil, subst, length, map, flat_map, nat_eq, if◌then◌else◌, length-append, zero-mul, mul-one}
use Rattle.std.proofs.lemmas.List.{map-append}
use Rattle.std.proofs.Math.Nat.{one-le-pow}
use Rattle.histories.specs.History.{only_if, is_raised}
use Rattle.memory_runs.specs.Views.{Shape, Kind, Levels}
use Rattle.memory_runs.specs.Views.Kind.{Reads, Writes}
use Rattle.memory_runs.specs.Operations.{Beat, Operation, operations_of}
use Rattle.memory_runs.specs.Commands.{Burst, write_transfer, read_transfer, byte_address}
use Rattle.memory_machines.specs.Link.{Target, Marked, operations_in, operations_among, items_from, closes, beats_with, is_nonempty}
use Rattle.memory_machines.specs.Link.Item.{Acts, Ends}
use Rattle.memory_machines.specs.Machines.{Raw, mark, burst_past, marked, burst_of, IsFitBeat, AreFit, acted_past, single, joined}

-- the transfer of a command of one beat
pub transfer_by : (shape : Shape) (levels : Levels) (burst : Burst) → burst.left ≡ 0 → levels.count ≡ 1 → (w : Bool) →
    (if w then write_transfer shape levels burst else read_transfer shape levels) ≡ record {
      kind = if w then Writes else Reads;
      first = byte_address shape levels.address;
      begins = true;
      ends = true;
      beats = record { kind = if w then Writes else Reads; address = byte_address shape levels.address + 0 * shape.word_bytes; word = if w then levels.word else 0; enables = levels.enables } ∷ [];
    }
transfer_by shape levels burst none one true = ap₂ (λ l n. write_transfer shape (record levels { count = n }) (record { left = l; done = burst.done; first = burst.first })) none one
transfer_by shape levels burst none one false = ap (λ n. read_transfer shape (record levels { count = n })) one

whole_address : (a unit bytes : ℕ) → unit ≡ 1 → a % bytes ≡ 0 → (a * unit - (a * unit) % bytes) + 0 * bytes ≡ a
whole_address a unit bytes one aligned =
    let same : a * unit ≡ a = ap (λ n. a * n) one ∙ mul-one a in
    let none = zero-mul bytes in
    rw (same, aligned, none) (omega arith)

-- what a list of beats has, and what its commands keep
pub record Sends (target : Target) (narrow : Shape) (below : Burst) (raws : List Raw) (ops : List Operation) (tag last count : ℕ) : Type 0 where
  pub items : (acted : Bool) → items_from target narrow acted (marked narrow below raws) ≡ map (Acts tag) ops ++ only_if (not (is_raised last) && (acted || is_nonempty ops)) (Ends tag)
  pub acted : (acted : Bool) → acted_past target narrow acted (marked narrow below raws) ≡ (not (not (is_raised last)) && (acted || is_nonempty ops))
  pub operations : operations_among target narrow (marked narrow below raws) ≡ ops
  pub free : (burst_of narrow below raws).left ≡ 0
  pub fit : AreFit narrow below raws
  pub beats : (t : ℕ) → length (beats_with t (marked narrow below raws)) ≡ (if nat_eq tag t then count else 0)

either : (acted : Bool) (xs ys : List Operation) → ((acted || is_nonempty xs) || is_nonempty ys) ≡ (acted || is_nonempty (xs ++ ys))
either true xs ys = refl
either false [] ys = refl
either false (x ∷ xs) ys = refl

module _ (target : Target) (narrow : Shape) (units : narrow.unit_bytes ≡ 1) where
  abbrev ops_of : Beat → List Operation
  ops_of beat = operations_of narrow target.shape target.span beat

  -- one command where no burst is under way
  pub record One (below : Burst) (tag more : ℕ) (beat : Beat) : Type 0 where
    pub operations : operations_in target narrow (mark narrow below (single tag more beat)) ≡ ops_of beat
    pub closes : closes (mark narrow below (single tag more beat)) ≡ not (is_raised more)
    pub free : (burst_past narrow below (single tag more beat)).left ≡ 0
    pub fit : IsFitBeat narrow below (single tag more beat)
    pub beats : length (mark narrow below (single tag more beat)).transfer.beats ≡ 1

  one_at : (done first tag more : ℕ) (kind : Kind) (a w e : ℕ) → a % narrow.word_bytes ≡ 0 → One (record { left = 0; done = done; first = first }) tag more (record { kind = kind; address = a; word = w; enables = e })
  one_at done first tag more Writes a w e aligned = record {
    operations = append-nil _ ∙ ap (λ x. ops_of (record { kind = Writes; address = x; word = w; enables = e })) (whole_address a narrow.unit_bytes narrow.word_bytes units aligned);
    closes = refl;
    free = refl;
    fit = record { one_kind = refl; least = λ h. omega arith; most = λ h. one-le-pow (narrow.burst_bits - 1) 2 (omega arith); finished = λ h. cc; joined = refl };
    beats = refl;
  }
  one_at done first tag more Reads a w e aligned = record {
    operations = append-nil _ ∙ ap (λ x. ops_of (record { kind = Reads; address = x; word = w; enables = e })) (whole_address a narrow.unit_bytes narrow.word_bytes units aligned);
    closes = refl;
    free = refl;
    fit = record { one_kind = refl; least = λ h. omega arith; most = λ h. one-le-pow (narrow.burst_bits - 1) 2 (omega arith); finished = λ h. cc; joined = refl };
    beats = refl;
  }

  one_of : (below : Burst) (tag more : ℕ) (beat : Beat) → below.left ≡ 0 → beat.address % narrow.word_bytes ≡ 0 → One below tag more beat
  one_of below tag more beat none aligned = subst (λ l. One (record { left = l; done = below.done; first = below.first }) tag more beat) (sym none) (one_at below.done below.first tag more beat.kind beat.address beat.word beat.enables aligned)

  abbrev pub AreAligned : List Beat → Type 0
  AreAligned [] = Unit {0}
  AreAligned (beat ∷ later) = (beat.address % narrow.word_bytes ≡ 0) × AreAligned later

  one_tagged : (t tag : ℕ) (m : Marked) (rest : List Marked) (n : ℕ) → m.tag ≡ tag → length m.transfer.beats ≡ 1 → length (beats_with t rest) ≡ (if nat_eq tag t then n else 0) →
      length (beats_with t (m ∷ rest)) ≡ (if nat_eq tag t then suc n else 0)
  one_tagged t tag m rest n same one others = by_test (nat_eq tag t) (ap (λ x. nat_eq x t) same) others
    where
      by_test : (b : Bool) → nat_eq m.tag t ≡ b → length (beats_with t rest) ≡ (if b then n else 0) → length (beats_with t (m ∷ rest)) ≡ (if b then suc n else 0)
      by_test true e others = rw e (length-append m.transfer.beats (beats_with t rest) ∙ ap₂ (λ x y. x + y) one others ∙ omega arith)
      by_test false e others = rw e others

  pub sends : (tag last : ℕ) (beat : Beat) (later : List Beat) (below : Burst) → below.left ≡ 0 → AreAligned (beat ∷ later) →
      Sends target narrow below (joined tag last (beat ∷ later)) (flat_map ops_of (beat ∷ later)) tag last (length (beat ∷ later))
  sends tag last beat [] below none aligned =
      let one = one_of below tag last beat none aligned.0 in
      let ops : operations_in target narrow (mark narrow below (single tag last beat)) ≡ ops_of beat ++ [] = one.operations ∙ sym (append-nil _) in
      record {
        items = λ acted. append-nil _ ∙ ap₂ (λ o c. map (Acts tag) o ++ only_if (c && (acted || is_nonempty o)) (Ends tag)) ops one.closes;
        acted = λ acted. ap₂ (λ o c. not c && (acted || is_nonempty o)) ops one.closes;
        operations = append-nil _ ∙ ops;
        free = one.free;
        fit = (one.fit, tt);
        beats = λ t. one_tagged t tag (mark narrow below (single tag last beat)) [] 0 refl one.beats (none_there t);
      }
    where
      none_there : (t : ℕ) → ◌≡◌ {A = ℕ} 0 (if nat_eq tag t then 0 else 0)
      none_there t = by_test (nat_eq tag t)
        where
          by_test : (b : Bool) → ◌≡◌ {A = ℕ} 0 (if b then 0 else 0)
          by_test true = refl
          by_test false = refl
  sends tag last beat (next ∷ later) below none aligned =
      let one = one_of below tag 1 beat none aligned.0 in
      let rest = sends tag last next later (burst_past narrow below (single tag 1 beat)) one.free aligned.1 in
      let others = flat_map ops_of (next ∷ later) in
      record {
        items = λ acted.
            ap₂ (λ l a. l ++ items_from target narrow a (marked narrow (burst_past narrow below (single tag 1 beat)) (joined tag last (next ∷ later))))
            (ap₂ (λ o c. map (Acts tag) o ++ only_if (c && (acted || is_nonempty o)) (Ends tag)) one.operations one.closes ∙ append-nil _)
            (ap₂ (λ o c. not c && (acted || is_nonempty o)) one.operations one.closes)
            ∙ ap (λ l. map (Acts tag) (ops_of beat) ++ l) (rest.items (acted || is_nonempty (ops_of beat)))
            ∙ sym (append_assoc (map (Acts tag) (ops_of beat)) (map (Acts tag) others) _)
            ∙ ap₂ (λ l b. l ++ only_if (not (is_raised last) && b) (Ends tag)) (sym (map-append (Acts tag) (ops_of beat) others)) (either acted (ops_of beat) others);
        acted = λ acted.
            ap (λ a. acted_past target narrow a (marked narrow (burst_past narrow below (single tag 1 beat)) (joined tag last (next ∷ later)))) (ap₂ (λ o c. not c && (acted || is_nonempty o)) one.operations one.closes)
            ∙ rest.acted (acted || is_nonempty (ops_of beat)) ∙ ap (λ b. not (not (is_raised last)) && b) (either acted (ops_of beat) others);
        operations = ap₂ (λ x y. x ++ y) one.operations rest.operations;
        free = rest.free;
        fit = (one.fit, rest.fit);
        beats = λ t. one_tagged t tag (mark narrow below (single tag 1 beat)) _ (length (next ∷ later)) refl one.beats (rest.beats t);
      }
