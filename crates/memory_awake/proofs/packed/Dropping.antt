-- What drops beats without a lane hands the others on in order, each with its operations.
use Rattle.std.proofs.Common.{ℕ, zero, suc, ◌<◌, ◌≡◌, Bool, true, false, not, ◌&&◌, ◌||◌, List, [], ◌∷◌, ◌++◌, if◌then◌else◌, arith, refl, sym, ap, ap₂, subst, ◌∙◌, length, nat_eq, append-nil, append_assoc, filter}
use Rattle.std.specs.List.{list_any}
use Rattle.std.proofs.lemmas.Bool.{and_parts}
use Rattle.histories.specs.History.{before, is_raised, numbers}
use Rattle.memory_runs.specs.Views.{Levels, levels_at}
use Rattle.memory_runs.specs.Operations.{is_enabled}
use Rattle.memory_runs.specs.Commands.{shows}
use Rattle.memory_machines.specs.Link.{Target, Port, takes, taken_at, is_nonempty}
use Rattle.memory_machines.specs.Machines.{Raw, raw_at}
use Rattle.memory_links.specs.Drops.{DropState, RunsAsDrop, IsDropPlan, Standing, standing_at, any_lane, sends, accepted, keeps, sent_beat}
use Rattle.memory_links.specs.Packs.{acting}
use Rattle.memory_awake.specs.Packed.{KeepsSizes}
use Rattle.memory_awake.proofs.packed.Sizes.{lanes_of, sizes_now, sizes_at, sizes_taken, acting_append, same_words, filled_are, none_act}

abbrev now : Bool → Bool → Bool → Bool → Bool → ℕ → Standing
now s w a m h r = record { shown = s; writes = w; acts = a; more = m; holds = h; reads = r }

-- what goes below and what is kept then, against what was kept and what is accepted: `held` are the operations of the kept beat, `new` those of the one above
at_rest : (held : List ℕ) → [] ++ held ≡ held ++ []
at_rest held = sym (append-nil held)

balance : (room : ℕ) (s w a m h : Bool) (r : ℕ) (t : Bool) → (t ≡ true → sends room (now s w a m h r) ≡ true) → (held new : List ℕ) → (h ≡ false → held ≡ []) → (a ≡ false → new ≡ []) →
    (if t then (if h then held else new) else []) ++ (if keeps (now s w a m h r) t then new else if t then [] else held) ≡ held ++ (if accepted (now s w a m h r) t then new else [])
balance room false w a m h r true f held new none empty = let e = f refl in cc
balance room false w a m h r false f held new none empty = at_rest held
balance room true true true true false r true f held new none empty = let e = f refl in cc
balance room true true true true false r false f held new none empty = ap (λ l. l ++ new) (sym (none refl))
balance room true true true true true r true f held new none empty = refl
balance room true true true true true r false f held new none empty = at_rest held
balance room true true true false false r true f held new none empty = append-nil new ∙ ap (λ l. l ++ new) (sym (none refl))
balance room true true true false false r false f held new none empty = at_rest held
balance room true true true false true r true f held new none empty = refl
balance room true true true false true r false f held new none empty = at_rest held
balance room true false true m false r true f held new none empty = append-nil new ∙ ap (λ l. l ++ new) (sym (none refl))
balance room true false true m false r false f held new none empty = at_rest held
balance room true false true m true r true f held new none empty = refl
balance room true false true m true r false f held new none empty = at_rest held
balance room true w false m h r t f held new none empty = swallowed h t (w || nat_eq r 0) (w && m) f
  where
    unkept : (b x : Bool) → (b && (x && false)) ≡ false
    unkept true true = refl
    unkept true false = refl
    unkept false x = refl

    nothing : (b : Bool) → (if b then new else []) ≡ []
    nothing true = empty refl
    nothing false = refl

    swallowed : (h t b x : Bool) → (t ≡ true → (if h then (false || not m) else false) ≡ true) →
        (if t then (if h then held else new) else []) ++ (if (b && (not (h && not m) || t)) && (x && false) then new else if t then [] else held) ≡ held ++ (if b && (not (h && not m) || t) then new else [])
    swallowed h t b x f =
        ap (λ k. (if t then (if h then held else new) else []) ++ (if k then new else if t then [] else held)) (unkept (b && (not (h && not m) || t)) x)
        ∙ by_take h t f ∙ ap (λ l. held ++ l) (sym (nothing (b && (not (h && not m) || t))))
      where
        by_take : (h t : Bool) → (t ≡ true → (if h then (false || not m) else false) ≡ true) → (if t then (if h then held else new) else []) ++ (if t then [] else held) ≡ held ++ []
        by_take true true f = refl
        by_take true false f = at_rest held
        by_take false true f = let e = f refl in cc
        by_take false false f = at_rest held

module _ (target : Target) (room : ℕ) (up down : Port) (state : DropState) (plan : IsDropPlan target up.shape down.shape) (run : RunsAsDrop room up down state) where
  abbrev size : Levels → List ℕ
  size levels = acting (sizes_now target up.shape levels)

  abbrev kept_size : List Raw → List ℕ
  kept_size [] = []
  kept_size (k ∷ ks) = size k.levels

  -- a write is kept, or nothing
  data Kept : List Raw → Type 0 where
    none : Kept []
    one : (k : Raw) → is_raised k.levels.write ≡ true → Kept (k ∷ [])

  kept_is : (c : ℕ) → Kept (state.kept c)
  kept_is zero = subst Kept (sym run.kept_begins) none
  kept_is (suc c) = subst Kept (sym (run.kept_next c)) (by_keep (kept_is c) (keeps (standing_at up state c) (takes down c)) refl (takes down c))
    where
      by_keep : Kept (state.kept c) → (k : Bool) → keeps (standing_at up state c) (takes down c) ≡ k → (t : Bool) → Kept (if k then raw_at up c ∷ [] else if t then [] else state.kept c)
      by_keep before true e t =
          let both = (and_parts _ ((is_raised (up.commands.write c) && is_raised (up.commands.more c)) && any_lane up.shape (up.commands.enables c)) e).1 in
          one (raw_at up c) (and_parts (is_raised (up.commands.write c)) (is_raised (up.commands.more c)) (and_parts (is_raised (up.commands.write c) && is_raised (up.commands.more c)) _ both).0).0
      by_keep before false e true = none
      by_keep before false e false = before

  -- a beat without a lane has no operation
  no_lane : (levels : Levels) → any_lane up.shape levels.enables ≡ false → size levels ≡ []
  no_lane levels e = none_act levels (lanes_of target up.shape levels.enables) (ap length (filled_are up.shape target.shape levels.enables (sym plan.agent) some
      ∙ ap (λ b. if b then filter (is_enabled levels.enables) (numbers 0 target.shape.word_bytes) else if list_any (is_enabled levels.enables) (numbers 0 target.shape.word_bytes) then numbers 0 target.shape.word_bytes else []) plan.enables
      ∙ ap (λ n. if list_any (is_enabled levels.enables) (numbers 0 n) then numbers 0 n else []) plan.agent
      ∙ ap (λ b. if b then numbers 0 up.shape.word_bytes else []) e))
    where
      some : 0 < target.shape.word_bytes
      some = (let wide = plan.some in let same = plan.agent in omega (arith, wide, same))

  abbrev stands : ℕ → Bool → Standing
  stands c h = now (shows up.commands.signals c) (is_raised (up.commands.write c)) (any_lane up.shape (up.commands.enables c)) (is_raised (up.commands.more c)) h (state.reads c)

  -- a kept beat has its operations when it goes
  size_sent : (c : ℕ) (q : List Raw) → Kept q → state.kept c ≡ q → takes down c ≡ true →
      size (levels_at down.commands.signals c) ≡ (if is_nonempty q then kept_size q else size (levels_at up.commands.signals c))
  size_sent c q kept e t = ap (λ (r : Raw). size r.levels) (run.beat c (and_parts (shows down.commands.signals c) _ t).0 ∙ ap (λ q. sent_beat q (raw_at up c) (standing_at up state c).acts) e) ∙ by_kept q kept
    where
      by_kept : (q : List Raw) → Kept q → size (sent_beat q (raw_at up c) (standing_at up state c).acts).levels ≡ (if is_nonempty q then kept_size q else size (levels_at up.commands.signals c))
      by_kept [] k = refl
      by_kept (k ∷ []) (one same w) = rw w refl
      by_kept (k ∷ l ∷ ks) x = elim x [ ]

  one_step : (c : ℕ) (q : List Raw) → Kept q → state.kept c ≡ q →
      acting (sizes_at target up.shape down c) ++ kept_size (state.kept (suc c)) ≡ kept_size q ++ acting (sizes_at target up.shape up c)
  one_step c q kept e =
      ap₂ (λ x y. x ++ y) (below (takes down c) refl)
      (ap kept_size (run.kept_next c ∙ ap (λ q. if keeps (stands c (is_nonempty q)) (takes down c) then raw_at up c ∷ [] else if takes down c then [] else q) e) ∙ push (keeps (stands c (is_nonempty q)) (takes down c)) (takes down c))
      ∙ balance room (shows up.commands.signals c) (is_raised (up.commands.write c)) (any_lane up.shape (up.commands.enables c)) (is_raised (up.commands.more c)) (is_nonempty q) (state.reads c) (takes down c)
      (λ t. ap (λ q. sends room (stands c (is_nonempty q))) (sym e) ∙ sym (run.shown c) ∙ (and_parts (shows down.commands.signals c) _ t).0)
      (kept_size q) (size (levels_at up.commands.signals c)) (unkept q) (no_lane (levels_at up.commands.signals c))
      ∙ ap (λ l. kept_size q ++ l) (sym (taken (accepted (stands c (is_nonempty q)) (takes down c)) (run.accepts c ∙ ap (λ q. accepted (stands c (is_nonempty q)) (takes down c)) e)))
    where
      below : (t : Bool) → takes down c ≡ t → acting (sizes_at target up.shape down c) ≡ (if takes down c then (if is_nonempty q then kept_size q else size (levels_at up.commands.signals c)) else [])
      below true t = rw t (size_sent c q kept e t)
      below false t = rw t refl

      push : (k t : Bool) → kept_size (if k then raw_at up c ∷ [] else if t then [] else q) ≡ (if k then size (levels_at up.commands.signals c) else if t then [] else kept_size q)
      push true t = refl
      push false true = refl
      push false false = refl

      unkept : (q : List Raw) → is_nonempty q ≡ false → kept_size q ≡ []
      unkept [] e = refl
      unkept (k ∷ ks) e = cc

      taken : (a : Bool) → takes up c ≡ a → acting (sizes_at target up.shape up c) ≡ (if a then size (levels_at up.commands.signals c) else [])
      taken true t = rw t refl
      taken false t = rw t refl

  all_go : (c : ℕ) → acting (before (sizes_at target up.shape down) c) ++ kept_size (state.kept c) ≡ acting (before (sizes_at target up.shape up) c)
  all_go zero = ap kept_size run.kept_begins
  all_go (suc c) =
      ap (λ l. l ++ kept_size (state.kept (suc c))) (acting_append (before (sizes_at target up.shape down) c) (sizes_at target up.shape down c))
      ∙ append_assoc (acting (before (sizes_at target up.shape down) c)) (acting (sizes_at target up.shape down c)) (kept_size (state.kept (suc c)))
      ∙ ap (λ l. acting (before (sizes_at target up.shape down) c) ++ l) (one_step c (state.kept c) (kept_is c) refl)
      ∙ sym (append_assoc (acting (before (sizes_at target up.shape down) c)) (kept_size (state.kept c)) (acting (sizes_at target up.shape up c)))
      ∙ ap (λ l. l ++ acting (sizes_at target up.shape up c)) (all_go c)
      ∙ sym (acting_append (before (sizes_at target up.shape up) c) (sizes_at target up.shape up c))

  pub drop_keeps : (end : ℕ) → KeepsSizes target up down end
  drop_keeps end c h = record {
    rest = kept_size (state.kept c);
    joins =
        ap (λ l. acting l ++ kept_size (state.kept c)) (same_words target down.shape up.shape plan.same (taken_at down c) ∙ sizes_taken target up.shape down c)
        ∙ all_go c ∙ sym (ap acting (sizes_taken target up.shape up c));
  }
