-- Laws of packets at an end of ready latency 0. No contract reads a proof of theirs; the crates above cite them.
use Rattle.std.specs.Prelude.{ℕ, zero, suc, ◌≤◌, ◌<◌, ◌≡◌, true, false, not, ◌⊎◌, IsTrue, IsFalse}
use Rattle.std.proofs.Common.{refl, sym, ap, ◌∙◌, inl, inr, arith, subst}
use Rattle.std.proofs.lemmas.Bool.{and_parts, cond-true, cond-false, cases_Bool, cases_lt}
use Rattle.stream_runs.specs.View.{EndView, is_high, is_transfer}
use Rattle.stream_runs.specs.Source.{IsLegalSource, is_open, channel_before}
use Rattle.routed_runs.specs.Routes.{direct, direct_end}

-- a beat that transfers is shown
pub transfer_shows : (view : EndView) (c : ℕ) → IsTrue (is_transfer direct view c) → IsTrue (is_high view.valid c)
transfer_shows view c moves = (and_parts (is_high view.valid c) (is_high view.ready c) moves).0

-- a packet that begins with one beat is open until its end, on the channel of that beat
module _ (symbols bits most : ℕ) (view : EndView) (count : ℕ)
    (legal : IsLegalSource (direct_end true symbols bits most) view count) (b : ℕ)
    (begun : IsTrue (is_transfer direct view b)) where
  pub record IsInside (c : ℕ) : Type 0 where
    pub opened : is_open direct view c ≡ true
    pub channel : channel_before direct view c ≡ view.channel b

  pub stays_inside : (c : ℕ) → b < c → c ≤ count
      → ((d : ℕ) → b ≤ d → d < c → IsTrue (is_transfer direct view d) → IsFalse (is_high view.last d)) → IsInside c
  stays_inside zero from to goes = absurd (omega arith)
  stays_inside (suc c) from to goes =
      by_place (λ after. stays_inside c after (omega arith) (λ d low high. goes d low (omega arith))) (cases_lt b c)
    where
      at_beginning : b ≡ c → IsInside (suc c)
      at_beginning same =
          let here : IsTrue (is_transfer direct view c) = subst (λ d. IsTrue (is_transfer direct view d)) same begun in
          record {
            opened = cond-true (is_transfer direct view c) _ _ here ∙ ap not (goes c (omega (arith, same)) (omega arith) here);
            channel = cond-true (is_transfer direct view c) _ _ here ∙ ap view.channel (sym same);
          }

      later : IsInside c → b < c → (is_transfer direct view c ≡ true) ⊎ (is_transfer direct view c ≡ false) → IsInside (suc c)
      later inside after (inl moves) =
          record {
            opened = cond-true (is_transfer direct view c) _ _ moves ∙ ap not (goes c (omega (arith, after)) (omega arith) moves);
            channel =
                cond-true (is_transfer direct view c) _ _ moves
                ∙ ((legal c (omega arith)).formed (transfer_shows view c moves)).one_channel refl inside.opened ∙ inside.channel;
          }
      later inside after (inr stays) =
          record {
            opened = cond-false (is_transfer direct view c) _ _ stays ∙ inside.opened;
            channel = cond-false (is_transfer direct view c) _ _ stays ∙ inside.channel;
          }

      by_place : (b < c → IsInside c) → (b < c) ⊎ (c ≤ b) → IsInside (suc c)
      by_place earlier (inl after) = later (earlier after) after (cases_Bool (is_transfer direct view c))
      by_place earlier (inr here) = at_beginning (omega arith)

  -- and so each beat up to its end is on that channel
  pub one_channel_inside : (c : ℕ) → b < c → c < count
      → ((d : ℕ) → b ≤ d → d < c → IsTrue (is_transfer direct view d) → IsFalse (is_high view.last d))
      → IsTrue (is_transfer direct view c) → view.channel c ≡ view.channel b
  one_channel_inside c from to goes moves =
      let inside = stays_inside c from (omega arith) goes in
      let formed = (legal c to).formed (transfer_shows view c moves) in
      formed.one_channel refl inside.opened ∙ inside.channel
