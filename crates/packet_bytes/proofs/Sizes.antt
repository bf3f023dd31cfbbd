-- A word's size and its test.
use Rattle.std.proofs.Common.{◌≡◌, inl, inr, ℕ, true, ap}
use Rattle.std.specs.Prelude.{◌==◌, ◌||◌}
use Rattle.std.proofs.lemmas.Bool.{or_cases, eqb-true}
use Rattle.packet_bytes.specs.WordSizes.{is_word_size}
use Rattle.packet_bytes.specs.Rules.{IsWordSize}

pub known : (n : ℕ) → is_word_size n ≡ true → IsWordSize n
known n h = elim (or_cases (n == 1) (n == 2 || (n == 4 || (n == 8 || n == 16))) h) [
  | inl e ↦ inl (eqb-true n 1 e)
  | inr r ↦ inr (elim (or_cases (n == 2) (n == 4 || (n == 8 || n == 16)) r) [
    | inl e ↦ inl (eqb-true n 2 e)
    | inr r ↦ inr (elim (or_cases (n == 4) (n == 8 || n == 16) r) [
      | inl e ↦ inl (eqb-true n 4 e)
      | inr r ↦ inr (elim (or_cases (n == 8) (n == 16) r) [
        | inl e ↦ inl (eqb-true n 8 e)
        | inr e ↦ inr (eqb-true n 16 e)
      ])
    ])
  ])
]

pub passes : (n : ℕ) → IsWordSize n → is_word_size n ≡ true
passes n h = elim h [
  | inl e ↦ ap is_word_size e
  | inr r ↦ elim r [
    | inl e ↦ ap is_word_size e
    | inr r ↦ elim r [
      | inl e ↦ ap is_word_size e
      | inr r ↦ elim r [
        | inl e ↦ ap is_word_size e
        | inr e ↦ ap is_word_size e
      ]
    ]
  ]
]
