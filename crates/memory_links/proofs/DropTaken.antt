-- What a machine that drops beats without a lane has taken and shown below, by what it has accepted and shown above.
use Rattle.std.proofs.Common.{ℕ, zero, suc, ◌<◌, ◌≤◌, ◌≡◌, ◌+◌, ◌*◌, ◌⊎◌, inl, inr, Bool, true, false, not, ◌&&◌, ◌||◌, List, [], ◌∷◌, ◌++◌, if◌then◌else◌, arith, refl, sym, ap, ap₂, subst, ◌∙◌, map, IsTrue, append-nil, append_assoc}
use Rattle.std.proofs.lemmas.Bool.{and_parts, not-true, both_ways}
use Rattle.std.proofs.lemmas.List.{map-append}
use Rattle.histories.specs.History.{is_raised, one_if, only_if, standing, IsPrefix}
use Rattle.memory_runs.specs.Views.{Levels, levels_at}
use Rattle.memory_runs.specs.Views.Kind.{Reads, Writes}
use Rattle.memory_runs.specs.Operations.{Beat, operation_at, filled_lanes}
use Rattle.memory_runs.specs.Commands.{Transfer, byte_address, shows, is_held, is_of_reads}
use Rattle.memory_machines.specs.Link.{Target, Port, Marked, AreLegalAt, takes, marked_at, taken_at, shown_at, closes, is_nonempty}
use Rattle.memory_machines.specs.Machines.{Raw, raw_at, raws}
use Rattle.memory_machines.specs.PartRanks.{JoinsAlike, are_joined_alike}
use Rattle.memory_machines.specs.SideLaws.{taken_is_shown}
use Rattle.memory_links.specs.Drops.{DropState, RunsAsDrop, IsDropPlan, Standing, standing_at, any_lane, sends, accepted, keeps, released, sent_beat}
use Rattle.memory_links.proofs.CutLists.{or_nil}
use Rattle.memory_links.proofs.DropJoins.{AllEnd, after_closed, dropped, kept_is_open}
use Rattle.memory_links.proofs.DropJoins.Stands.{free}
use Rattle.memory_links.proofs.DropLists.{acts, writes, last_one, kept_by, sent_by, kept_past, sent_past, kept_after, sent_after, kept_push, sent_push, sent_append, Drops, AllKept, still_kept}
use Rattle.memory_links.proofs.DropShown.{stands_so, lanes_are, stands_above}
use Rattle.memory_links.proofs.Gated.{read_after_write}
use Rattle.memory_links.proofs.InStep.{shown_with}
use Rattle.memory_links.proofs.OneBeat.{raw_by, beat_by, count_is_one, flat_mark, flat_at, flat_taken, flat_shown, shown_raws, transfer_by}
use Rattle.memory_links.proofs.Stages.{alike_prefix}

-- a cycle in which no beat is kept: what stands, what is taken below and accepted above, and whether it is kept then
pub data Alone : Bool → Bool → Bool → Bool → Bool → Bool → Bool → Type 0 where
  idle : (s w a m : Bool) → Alone s w a m false false false
  swallow : (w m : Bool) → Alone true w false m false true false
  keep : Alone true true true true false true true
  pass_read : (m : Bool) → Alone true false true m true true false
  pass_write : Alone true true true false true true false

pub alone : (room : ℕ) (s w a m t : Bool) (r : ℕ) → (t ≡ true → sends room (stands_so s w a m false r) ≡ true) → Alone s w a m t (accepted (stands_so s w a m false r) t) (keeps (stands_so s w a m false r) t)
alone room false w a m true r f = let e = f refl in cc
alone room true w false m true r f = let e = f refl in cc
alone room true true true true true r f = let e = f refl in cc
alone room true true true false true r f = pass_write
alone room true false true m true r f = pass_read m
alone room false w a m false r f = idle false w a m
alone room true true true true false r f = keep
alone room true true true false false r f = idle true true true false
alone room true false true m false r f = idle true false true m
alone room true w false m false r f = by_free (w || _)
  where
    by_free : (b : Bool) → Alone true w false m false (b && true) ((b && true) && ((w && m) && false))
    by_free false = idle true w false m
    by_free true = by_more (w && m)
      where
        by_more : (x : Bool) → Alone true w false m false true (x && false)
        by_more true = swallow w m
        by_more false = swallow w m

-- a cycle in which a write is kept
data Behind : Bool → Bool → Bool → Bool → Bool → Bool → Bool → Type 0 where
  rest : (s w a m : Bool) → Behind s w a m false false false
  swallow : Behind true true false true false true false
  replace : Behind true true true true true true true
  release : Behind true true true false true false false
  finish : Behind true true false false true true false

behind : (room : ℕ) (s w a m t : Bool) (r : ℕ) → (s ≡ true → w ≡ true) → (t ≡ true → sends room (stands_so s w a m true r) ≡ true) → Behind s w a m t (accepted (stands_so s w a m true r) t) (keeps (stands_so s w a m true r) t)
behind room false w a m true r g f = let e = f refl in cc
behind room false w a m false r g f = rest false w a m
behind room true false a m t r g f = let e = g refl in cc
behind room true true true true true r g f = replace
behind room true true true true false r g f = rest true true true true
behind room true true true false true r g f = release
behind room true true true false false r g f = rest true true true false
behind room true true false true true r g f = let e = f refl in cc
behind room true true false true false r g f = swallow
behind room true true false false true r g f = finish
behind room true true false false false r g f = rest true true false false

pub alone_sends : (room : ℕ) (s w a m : Bool) (r : ℕ) → sends room (stands_so s w a m false r) ≡ true → (a ≡ true) × ((w && m) ≡ false)
alone_sends room false w a m r e = cc
alone_sends room true w false m r e = cc
alone_sends room true true true true r e = cc
alone_sends room true true true false r e = (refl, refl)
alone_sends room true false true m r e = (refl, refl)

module _ (target : Target) (room : ℕ) (up down : Port) (state : DropState) (end : ℕ) (plan : IsDropPlan target up.shape down.shape) (run : RunsAsDrop room up down state) (legal : AreLegalAt up end) (alike : JoinsAlike target up end) where
  subst₂ : {A B : Type 0} (f : A → B → Type 0) {a c : A} {b d : B} → a ≡ c → b ≡ d → f a b → f c d
  subst₂ f {a} {c} {b} {d} p q x = subst (λ y. f c y) q (subst (λ z. f z b) p x)

  -- a beat as a transfer by itself. What goes on below is told in the words of the upper side
  abbrev pub u : Raw → Marked
  u raw = flat_mark up.shape raw

  abbrev pub lane : ℕ → Bool
  lane c = any_lane up.shape (up.commands.enables c)

  abbrev pub now_writes : ℕ → Bool
  now_writes c = is_raised (up.commands.write c)

  abbrev pub now_more : ℕ → Bool
  now_more c = is_raised (up.commands.more c)

  abbrev pub kept_above : ℕ → List Marked
  kept_above c = kept_after target up.shape [] (taken_at up c)

  abbrev pub sent_above : ℕ → List Marked
  sent_above c = sent_after target up.shape [] (taken_at up c)

  pub up_one : (c : ℕ) → c < end → shows up.commands.signals c ≡ true → up.commands.count c ≡ 1
  up_one = count_is_one up end plan.one_beat legal

  shows_taken : (c : ℕ) → takes up c ≡ true → shows up.commands.signals c ≡ true
  shows_taken c t = (and_parts (shows up.commands.signals c) (not (is_raised (up.commands.waitrequest c))) t).0

  pub shows_below : (c : ℕ) → takes down c ≡ true → shows down.commands.signals c ≡ true
  shows_below c t = (and_parts (shows down.commands.signals c) (not (is_raised (down.commands.waitrequest c))) t).0

  pub acts_is : (raw : Raw) → acts target up.shape (u raw) ≡ any_lane up.shape raw.levels.enables
  acts_is raw = or_nil (map (operation_at target.span beat) lanes) ∙ only_map lanes ∙ lanes_are target.shape up.shape raw.levels.enables plan.some plan.agent
    where
      beat : Beat
      beat = beat_by (if is_raised raw.levels.write then Writes else Reads) (byte_address up.shape raw.levels.address + 0 * up.shape.word_bytes) (if is_raised raw.levels.write then raw.levels.word else 0) raw.levels.enables

      lanes : List ℕ
      lanes = filled_lanes up.shape target.shape raw.levels.enables

      only_map : (l : List ℕ) → is_nonempty (map (operation_at target.span beat) l) ≡ is_nonempty l
      only_map [] = refl
      only_map (x ∷ l) = refl

  pub writes_is : (raw : Raw) → writes (u raw) ≡ is_raised raw.levels.write
  writes_is raw = by_write (is_raised raw.levels.write)
    where
      by_write : (w : Bool) → not (is_of_reads (if w then Writes else Reads)) ≡ w
      by_write true = refl
      by_write false = refl

  pub all_end : (rs : List Raw) → AllEnd (map u rs)
  all_end [] = tt
  all_end (r ∷ rs) = (refl, all_end rs)

  abbrev pub nobody : Marked
  nobody = last_one (u (raw_at up 0))

  pub joined_taken : (c : ℕ) → c ≤ end → IsTrue (are_joined_alike target up (taken_at up c))
  joined_taken c h = alike_prefix target up (taken_is_shown up end c legal h) (alike c h)

  pub dropped_from : (c : ℕ) (ms : List Marked) → AllEnd ms → IsTrue (are_joined_alike target up ms) → Drops target up.shape [] false ms (sent_after target up.shape [] ms) (kept_after target up.shape [] ms)
  dropped_from c ms ends joined = dropped target up nobody [] false ms (free refl) ends (after_closed target up nobody ms refl joined)

  pub dropped_taken : (c : ℕ) → c ≤ end → Drops target up.shape [] false (taken_at up c) (sent_above c) (kept_above c)
  dropped_taken c h = dropped_from c (taken_at up c) (subst AllEnd (sym (flat_taken up end legal up_one c h)) (all_end (raws up c))) (joined_taken c h)

  pub dropped_shown : (c : ℕ) → c ≤ end → Drops target up.shape [] false (shown_at up c) (sent_after target up.shape [] (shown_at up c)) (kept_after target up.shape [] (shown_at up c))
  dropped_shown c h = dropped_from c (shown_at up c) (subst AllEnd (sym (flat_shown up end legal up_one c h)) (all_end (shown_raws up c))) (alike c h)

  -- ---- a beat that is kept

  abbrev keeps_at : ℕ → Bool
  keeps_at c = keeps (standing_at up state c) (takes down c)

  pub kept_next : (c : ℕ) (k t : Bool) → keeps_at c ≡ k → takes down c ≡ t → state.kept (suc c) ≡ (if k then raw_at up c ∷ [] else if t then [] else state.kept c)
  kept_next c k t e f = run.kept_next c ∙ ap₂ (λ k t. if k then raw_at up c ∷ [] else if t then [] else state.kept c) e f

  abbrev pub OneOf : List Raw → Type 0
  OneOf q = (q ≡ []) ⊎ ((k : Raw) × (q ≡ k ∷ []))

  pub kept_one : (c : ℕ) → OneOf (state.kept c)
  kept_one zero = inl run.kept_begins
  kept_one (suc c) = subst OneOf (sym (run.kept_next c)) (by_keep (kept_one c) (keeps_at c) (takes down c))
    where
      by_keep : OneOf (state.kept c) → (k t : Bool) → OneOf (if k then raw_at up c ∷ [] else if t then [] else state.kept c)
      by_keep before true t = inr (raw_at up c, refl)
      by_keep before false true = inl refl
      by_keep before false false = before

  -- the same transfer, but for `more`
  as_released : (k : Raw) (follows : Bool) → is_raised k.levels.write ≡ true → u (released k follows) ≡ record (u k) { more = follows }
  as_released k follows e = ap₂ (λ (t : Transfer) b. marked_by t b) (ap (transfer_by up.shape k.levels) (sym e)) (raised follows)
    where
      marked_by : Transfer → Bool → Marked
      marked_by t b = record { tag = k.tag; more = b; transfer = t }

      raised : (b : Bool) → is_raised (one_if b) ≡ b
      raised true = refl
      raised false = refl

  -- ---- one cycle

  down_next : (c : ℕ) (t : Bool) → takes down c ≡ t → map u (raws down (suc c)) ≡ map u (raws down c) ++ only_if t (u (raw_at down c))
  down_next c t e = map-append u (raws down c) (only_if (takes down c) (raw_at down c)) ∙ ap (λ b. map u (raws down c) ++ map u (only_if b (raw_at down c))) e ∙ ap (λ l. map u (raws down c) ++ l) (by_take t)
    where
      by_take : (t : Bool) → map u (only_if t (raw_at down c)) ≡ only_if t (u (raw_at down c))
      by_take true = refl
      by_take false = refl

  up_same : (c : ℕ) → takes up c ≡ false → taken_at up (suc c) ≡ taken_at up c
  up_same c e = ap (λ b. taken_at up c ++ only_if b (marked_at up c)) e ∙ append-nil (taken_at up c)

  -- what one more transfer does, where it acts, writes and has `more` so
  sent_is : (q : List Marked) (raw : Raw) (a w m : Bool) → any_lane up.shape raw.levels.enables ≡ a → is_raised raw.levels.write ≡ w → is_raised raw.more ≡ m → sent_past target up.shape q (u raw) ≡ sent_by a w (not m) q (u raw)
  sent_is q raw a w m ea ew em =
      ap₂ (λ x y. sent_by x y (closes (u raw)) q (u raw)) (acts_is raw ∙ ea) (writes_is raw ∙ ew) ∙ ap (λ z. sent_by a w (not z) q (u raw)) em

  kept_is : (q : List Marked) (raw : Raw) (a w m : Bool) → any_lane up.shape raw.levels.enables ≡ a → is_raised raw.levels.write ≡ w → is_raised raw.more ≡ m → kept_past target up.shape q (u raw) ≡ kept_by a w (not m) q (u raw)
  kept_is q raw a w m ea ew em =
      ap₂ (λ x y. kept_by x y (closes (u raw)) q (u raw)) (acts_is raw ∙ ea) (writes_is raw ∙ ew) ∙ ap (λ z. kept_by a w (not z) q (u raw)) em

  one_more : (c : ℕ) → c < end → takes up c ≡ true → taken_at up (suc c) ≡ taken_at up c ++ u (raw_at up c) ∷ []
  one_more c h t = ap (λ b. taken_at up c ++ only_if b (marked_at up c)) t ∙ ap (λ m. taken_at up c ++ m ∷ []) (flat_at up end legal up_one c h (shows_taken c t))

  pub sent_next : (c : ℕ) → c < end → takes up c ≡ true → (a w m : Bool) → lane c ≡ a → now_writes c ≡ w → now_more c ≡ m → sent_above (suc c) ≡ sent_above c ++ sent_by a w (not m) (kept_above c) (u (raw_at up c))
  sent_next c h t a w m ea ew em =
      ap (sent_after target up.shape []) (one_more c h t) ∙ sent_push target up.shape [] (taken_at up c) (u (raw_at up c)) ∙ ap (λ l. sent_above c ++ l) (sent_is (kept_above c) (raw_at up c) a w m ea ew em)

  pub keeps_next : (c : ℕ) → c < end → takes up c ≡ true → (a w m : Bool) → lane c ≡ a → now_writes c ≡ w → now_more c ≡ m → kept_above (suc c) ≡ kept_by a w (not m) (kept_above c) (u (raw_at up c))
  keeps_next c h t a w m ea ew em =
      ap (kept_after target up.shape []) (one_more c h t) ∙ kept_push target up.shape [] (taken_at up c) (u (raw_at up c)) ∙ kept_is (kept_above c) (raw_at up c) a w m ea ew em

  -- what stands above stands on
  stands_on : (c : ℕ) → suc c < end → is_held up.commands.signals (takes up) c ≡ true → (shows up.commands.signals (suc c) ≡ true) × (raw_at up (suc c) ≡ raw_at up c)
  stands_on c h held =
      let levels = legal.legal.held c h held in (
        ap (λ (l : Levels). is_raised l.read || is_raised l.write) (sym levels) ∙ (and_parts (shows up.commands.signals c) (not (takes up c)) held).0,
        sym (ap₂ (λ l m. raw_by l m (up.commands.tag c)) levels (legal.more c h held) ∙ ap (raw_by (levels_at up.commands.signals (suc c)) (up.commands.more (suc c))) (legal.tag c h held)),
      )

  -- all of what was accepted has gone on, but for what is kept
  pub record Level (c : ℕ) : Type 0 where
    pub sent : map u (raws down c) ≡ sent_above c
    pub kept : map u (state.kept c) ≡ kept_above c

  -- what was kept has gone, and the last beat of its command stands above
  pub record Ahead (c : ℕ) : Type 0 where
    pub sent : map u (raws down c) ≡ sent_above c ++ kept_above c
    pub none : state.kept c ≡ []
    pub some : is_nonempty (kept_above c) ≡ true
    pub raw : Raw
    pub stood : standing (shows up.commands.signals) (takes up) (raw_at up) c ≡ raw ∷ []
    pub acts : any_lane up.shape raw.levels.enables ≡ true
    pub last : (is_raised raw.levels.write && is_raised raw.more) ≡ false
    pub now : c < end → (shows up.commands.signals c ≡ true) × (raw_at up c ≡ raw)

  abbrev pub standing_with : ℕ → List Raw → Standing
  standing_with c q = stands_so (shows up.commands.signals c) (now_writes c) (lane c) (now_more c) (is_nonempty q) (state.reads c)

  pub sends_with : (c : ℕ) (q : List Raw) → state.kept c ≡ q → shows down.commands.signals c ≡ true → sends room (standing_with c q) ≡ true
  sends_with c q e shown = subst (λ q. sends room (standing_with c q) ≡ true) e (sym (run.shown c) ∙ shown)

  pub beat_with : (c : ℕ) (q : List Raw) → state.kept c ≡ q → shows down.commands.signals c ≡ true → raw_at down c ≡ sent_beat q (raw_at up c) (lane c)
  beat_with c q e shown = run.beat c shown ∙ ap (λ q. sent_beat q (raw_at up c) (lane c)) e

  pub alone_at : (c : ℕ) → state.kept c ≡ [] → Alone (shows up.commands.signals c) (now_writes c) (lane c) (now_more c) (takes down c) (takes up c) (keeps_at c)
  alone_at c e =
      subst (λ b. Alone (shows up.commands.signals c) (now_writes c) (lane c) (now_more c) (takes down c) b (keeps_at c)) (sym (run.accepts c))
      (subst (λ q. Alone (shows up.commands.signals c) (now_writes c) (lane c) (now_more c) (takes down c) (accepted (standing_with c q) (takes down c)) (keeps (standing_with c q) (takes down c))) (sym e)
      (alone room (shows up.commands.signals c) (now_writes c) (lane c) (now_more c) (takes down c) (state.reads c) (λ t. sends_with c [] e (shows_below c t))))

  -- where nothing moves, all is as before
  still : (c : ℕ) → takes down c ≡ false → takes up c ≡ false → keeps_at c ≡ false → Level c → Level (suc c)
  still c t b k level = record {
    sent = down_next c false t ∙ append-nil (map u (raws down c)) ∙ level.sent ∙ ap (sent_after target up.shape []) (sym (up_same c b));
    kept = ap (map u) (kept_next c false false k t) ∙ level.kept ∙ ap (kept_after target up.shape []) (sym (up_same c b));
  }

  no_last : (c : Bool) → (if c then map last_one [] else []) ≡ []
  no_last true = refl
  no_last false = refl

  none_if : {A : Type 0} (c : Bool) (q : List A) → q ≡ [] → (if c then [] else q) ≡ []
  none_if true q e = refl
  none_if false q e = e

  next_alone : (c : ℕ) → c < end → state.kept c ≡ [] → Level c → Level (suc c)
  next_alone c h e level = by_alone _ _ _ _ _ _ _ (alone_at c e) refl refl refl refl refl refl refl
    where
      none : kept_above c ≡ []
      none = sym level.kept ∙ ap (map u) e

      passed : (w m : Bool) → w && not (not m) ≡ false → lane c ≡ true → now_writes c ≡ w → now_more c ≡ m → takes down c ≡ true → takes up c ≡ true → keeps_at c ≡ false → Level (suc c)
      passed w m last ea ew em t b k = record {
        sent = down_next c true t ∙ ap₂ (λ l r. l ++ u r ∷ []) level.sent (beat_with c [] e (shows_below c t))
            ∙ ap₂ (λ q l. sent_above c ++ (q ++ (if l then [] else u (raw_at up c) ∷ []))) (sym none) (sym last) ∙ sym (sent_next c h b true w m ea ew em);
        kept = ap (map u) (kept_next c false true k t) ∙ ap (λ l. if l then u (raw_at up c) ∷ [] else []) (sym last) ∙ sym (keeps_next c h b true w m ea ew em);
      }

      by_alone : (s w a m t b k : Bool) → Alone s w a m t b k → shows up.commands.signals c ≡ s → now_writes c ≡ w → lane c ≡ a → now_more c ≡ m → takes down c ≡ t → takes up c ≡ b → keeps_at c ≡ k → Level (suc c)
      by_alone s w a m t b k (idle s2 w2 a2 m2) es ew ea em et eb ek = still c et eb ek level
      by_alone s w a m t b k (swallow w2 m2) es ew ea em et eb ek = record {
        sent = down_next c false et ∙ append-nil (map u (raws down c)) ∙ level.sent ∙ sym (append-nil (sent_above c))
            ∙ ap (λ l. sent_above c ++ l) (sym (no_last (not m2))) ∙ ap (λ q. sent_above c ++ (if not m2 then map last_one q else [])) (sym none) ∙ sym (sent_next c h eb false w2 m2 ea ew em);
        kept = ap (map u) (kept_next c false false ek et ∙ e) ∙ sym (none_if (not m2) (kept_above c) none) ∙ sym (keeps_next c h eb false w2 m2 ea ew em);
      }
      by_alone s w a m t b k keep es ew ea em et eb ek = record {
        sent = down_next c false et ∙ append-nil (map u (raws down c)) ∙ level.sent ∙ sym (append-nil (sent_above c)) ∙ ap (λ q. sent_above c ++ (q ++ [])) (sym none) ∙ sym (sent_next c h eb true true true ea ew em);
        kept = ap (map u) (kept_next c true false ek et) ∙ sym (keeps_next c h eb true true true ea ew em);
      }
      by_alone s w a m t b k (pass_read m2) es ew ea em et eb ek = passed false m2 refl ea ew em et eb ek
      by_alone s w a m t b k pass_write es ew ea em et eb ek = passed true false refl ea ew em et eb ek

  -- the beat that is kept, as a transfer
  record IsKeptAt (c : ℕ) (k : Raw) : Type 0 where
    pub one : kept_above c ≡ u k ∷ []
    pub released_as : (follows : Bool) → u (released k follows) ≡ record (u k) { more = follows }
    pub more : record (u k) { more = true } ≡ u k

  kept_there : (c : ℕ) → c ≤ end → (k : Raw) → state.kept c ≡ k ∷ [] → Level c → IsKeptAt c k
  kept_there c h k e level =
      let one = sym level.kept ∙ ap (map u) e in
      let is = (subst (AllKept target up.shape) one (still_kept target up.shape (dropped_taken c h))).0 in
      record {
        one = one;
        released_as = λ follows. as_released k follows (sym (writes_is k) ∙ ap not is.kind);
        more = ap (λ b. record (u k) { more = b }) (sym is.more);
      }

  next_behind : (c : ℕ) → c < end → (k : Raw) → state.kept c ≡ k ∷ [] → Level c → Level (suc c) ⊎ Ahead (suc c)
  next_behind c h k e level = by_behind _ _ _ _ _ _ _ happens refl refl refl refl refl refl refl
    where
      there : IsKeptAt c k
      there = kept_there c (omega (arith, h)) k e level

      one : kept_above c ≡ u k ∷ []
      one = there.one

      writes_above : shows up.commands.signals c ≡ true → now_writes c ≡ true
      writes_above shown = by_write (now_writes c) refl
        where
          by_write : (w : Bool) → now_writes c ≡ w → now_writes c ≡ true
          by_write true f = f
          by_write false f =
              let left = kept_is_open target up (dropped_taken c (omega (arith, h))) (ap is_nonempty one) in
              let kind : is_of_reads (marked_at up c).transfer.kind ≡ true = ap (λ (m : Marked). is_of_reads m.transfer.kind) (flat_at up end legal up_one c h shown) ∙ ap (λ w. is_of_reads (if w then Writes else Reads)) f in
              absurd (read_after_write target up (taken_at up c) (marked_at up c) (subst (λ l. IsTrue (are_joined_alike target up l)) (shown_with up end legal c h shown) (alike (suc c) h)) left.joined left.write kind)

      happens : Behind (shows up.commands.signals c) (now_writes c) (lane c) (now_more c) (takes down c) (takes up c) (keeps_at c)
      happens =
          subst (λ b. Behind (shows up.commands.signals c) (now_writes c) (lane c) (now_more c) (takes down c) b (keeps_at c)) (sym (run.accepts c))
          (subst (λ q. Behind (shows up.commands.signals c) (now_writes c) (lane c) (now_more c) (takes down c) (accepted (standing_with c q) (takes down c)) (keeps (standing_with c q) (takes down c))) (sym e)
          (behind room (shows up.commands.signals c) (now_writes c) (lane c) (now_more c) (takes down c) (state.reads c) writes_above (λ t. sends_with c (k ∷ []) e (shows_below c t))))

      -- what goes on below is the kept beat
      gone : (a : Bool) → lane c ≡ a → takes down c ≡ true → map u (raws down (suc c)) ≡ sent_above c ++ record (u k) { more = a } ∷ []
      gone a ea t = down_next c true t ∙ ap₂ (λ l r. l ++ u r ∷ []) level.sent (beat_with c (k ∷ []) e (shows_below c t)) ∙ ap (λ m. sent_above c ++ m ∷ []) (there.released_as (lane c) ∙ ap (λ b. record (u k) { more = b }) ea)

      by_behind : (s w a m t b k : Bool) → Behind s w a m t b k → shows up.commands.signals c ≡ s → now_writes c ≡ w → lane c ≡ a → now_more c ≡ m → takes down c ≡ t → takes up c ≡ b → keeps_at c ≡ k → Level (suc c) ⊎ Ahead (suc c)
      by_behind s w a m t b k (rest s2 w2 a2 m2) es ew ea em et eb ek = inl (still c et eb ek level)
      by_behind s w a m t b k swallow es ew ea em et eb ek = inl (record {
        sent = down_next c false et ∙ append-nil (map u (raws down c)) ∙ level.sent ∙ sym (append-nil (sent_above c)) ∙ sym (sent_next c h eb false true true ea ew em);
        kept = ap (map u) (kept_next c false false ek et) ∙ level.kept ∙ sym (keeps_next c h eb false true true ea ew em);
      })
      by_behind s w a m t b k replace es ew ea em et eb ek = inl (record {
        sent = gone true ea et ∙ ap (λ m. sent_above c ++ m ∷ []) there.more ∙ ap (λ q. sent_above c ++ (q ++ [])) (sym one) ∙ sym (sent_next c h eb true true true ea ew em);
        kept = ap (map u) (kept_next c true true ek et) ∙ sym (keeps_next c h eb true true true ea ew em);
      })
      by_behind s w a m t b k release es ew ea em et eb ek =
          let same = ap (kept_after target up.shape []) (up_same c eb) in
          let held : is_held up.commands.signals (takes up) c ≡ true = ap₂ (λ s t. s && not t) es eb in
          inr (record {
            sent = gone true ea et ∙ ap (λ m. sent_above c ++ m ∷ []) there.more ∙ ap₂ (λ l q. l ++ q) (ap (sent_after target up.shape []) (sym (up_same c eb))) (sym (same ∙ one));
            none = kept_next c false true ek et;
            some = ap is_nonempty (same ∙ one);
            raw = raw_at up c;
            stood = ap (λ b. only_if b (raw_at up c)) held;
            acts = ea;
            last = ap₂ (λ w m. w && m) ew em;
            now = λ low. stands_on c low held;
          })
      by_behind s w a m t b k finish es ew ea em et eb ek = inl (record {
        sent = gone false ea et ∙ ap (λ q. sent_above c ++ map last_one q) (sym one) ∙ sym (sent_next c h eb false true false ea ew em);
        kept = ap (map u) (kept_next c false true ek et) ∙ sym (keeps_next c h eb false true false ea ew em);
      })

  next_ahead : (c : ℕ) → c < end → Ahead c → Level (suc c) ⊎ Ahead (suc c)
  next_ahead c h ahead = by_alone _ _ _ _ _ _ _ (alone_at c ahead.none) refl refl refl refl refl refl refl
    where
      there : (shows up.commands.signals c ≡ true) × (raw_at up c ≡ ahead.raw)
      there = ahead.now h

      lanes : lane c ≡ true
      lanes = ap (λ (r : Raw). any_lane up.shape r.levels.enables) there.1 ∙ ahead.acts

      ends : now_writes c && now_more c ≡ false
      ends = ap (λ (r : Raw). is_raised r.levels.write && is_raised r.more) there.1 ∙ ahead.last

      passed : (w m : Bool) → w && not (not m) ≡ false → now_writes c ≡ w → now_more c ≡ m → takes down c ≡ true → takes up c ≡ true → keeps_at c ≡ false → Level (suc c) ⊎ Ahead (suc c)
      passed w m last ew em t b k = inl (record {
        sent = down_next c true t ∙ ap₂ (λ l r. l ++ u r ∷ []) ahead.sent (beat_with c [] ahead.none (shows_below c t))
            ∙ append_assoc (sent_above c) (kept_above c) (u (raw_at up c) ∷ [])
            ∙ ap (λ l. sent_above c ++ (kept_above c ++ (if l then [] else u (raw_at up c) ∷ []))) (sym last) ∙ sym (sent_next c h b true w m lanes ew em);
        kept = ap (map u) (kept_next c false true k t) ∙ ap (λ l. if l then u (raw_at up c) ∷ [] else []) (sym last) ∙ sym (keeps_next c h b true w m lanes ew em);
      })

      by_alone : (s w a m t b k : Bool) → Alone s w a m t b k → shows up.commands.signals c ≡ s → now_writes c ≡ w → lane c ≡ a → now_more c ≡ m → takes down c ≡ t → takes up c ≡ b → keeps_at c ≡ k → Level (suc c) ⊎ Ahead (suc c)
      by_alone s w a m t b k (idle s2 w2 a2 m2) es ew ea em et eb ek =
          let same = ap (kept_after target up.shape []) (up_same c eb) in
          let held : is_held up.commands.signals (takes up) c ≡ true = ap₂ (λ s t. s && not t) there.0 eb in
          inr (record {
            sent = down_next c false et ∙ append-nil (map u (raws down c)) ∙ ahead.sent ∙ ap₂ (λ l q. l ++ q) (ap (sent_after target up.shape []) (sym (up_same c eb))) (sym same);
            none = kept_next c false false ek et ∙ ahead.none;
            some = ap is_nonempty same ∙ ahead.some;
            raw = ahead.raw;
            stood = ap (λ b. only_if b (raw_at up c)) held ∙ ap (λ r. r ∷ []) there.1;
            acts = ahead.acts;
            last = ahead.last;
            now = λ low. (let on = stands_on c low held in (on.0, on.1 ∙ there.1));
          })
      by_alone s w a m t b k (swallow w2 m2) es ew ea em et eb ek = absurd (both_ways (lane c) ea lanes)
      by_alone s w a m t b k keep es ew ea em et eb ek = absurd (both_ways (now_writes c && now_more c) ends (ap₂ (λ w m. w && m) ew em))
      by_alone s w a m t b k (pass_read m2) es ew ea em et eb ek = passed false m2 refl ew em et eb ek
      by_alone s w a m t b k pass_write es ew ea em et eb ek = passed true false refl ew em et eb ek

  pub follows : (c : ℕ) → c ≤ end → Level c ⊎ Ahead c
  follows zero h = inl (record { sent = refl; kept = ap (map u) run.kept_begins })
  follows (suc c) h = by_so_far (follows c (omega (arith, h))) (kept_one c)
    where
      by_so_far : Level c ⊎ Ahead c → OneOf (state.kept c) → Level (suc c) ⊎ Ahead (suc c)
      by_so_far (inl level) (inl e) = inl (next_alone c h e level)
      by_so_far (inl level) (inr k) = next_behind c h k.0 k.1 level
      by_so_far (inr ahead) q = next_ahead c h ahead

  -- ---- what is shown

  -- the beats of what was accepted, and those of what stands
  with_standing : (c : ℕ) → c ≤ end → sent_after target up.shape [] (shown_at up c) ≡ sent_above c ++ sent_after target up.shape (kept_above c) (map u (standing (shows up.commands.signals) (takes up) (raw_at up) c))
  with_standing c h =
      ap (sent_after target up.shape []) (flat_shown up end legal up_one c h ∙ map-append u (raws up c) (standing (shows up.commands.signals) (takes up) (raw_at up) c)
      ∙ ap (λ l. l ++ map u (standing (shows up.commands.signals) (takes up) (raw_at up) c)) (sym (flat_taken up end legal up_one c h)))
      ∙ sent_append target up.shape [] (taken_at up c) (map u (standing (shows up.commands.signals) (takes up) (raw_at up) c))

  pub shown_front : (c : ℕ) → c ≤ end → IsPrefix (map u (shown_raws down c)) (sent_after target up.shape [] (shown_at up c))
  shown_front zero h = record { rest = []; joins = refl }
  shown_front (suc c) h = by_held (is_held down.commands.signals (takes down) c) refl
    where
      by_held : (b : Bool) → is_held down.commands.signals (takes down) c ≡ b → IsPrefix (map u (raws down (suc c) ++ only_if b (raw_at down c))) (sent_after target up.shape [] (shown_at up (suc c)))
      by_held false e = subst (λ l. IsPrefix (map u l) (sent_after target up.shape [] (shown_at up (suc c)))) (sym (append-nil (raws down (suc c)))) (by_so_far (follows (suc c) h))
        where
          by_so_far : Level (suc c) ⊎ Ahead (suc c) → IsPrefix (map u (raws down (suc c))) (sent_after target up.shape [] (shown_at up (suc c)))
          by_so_far (inl level) = record { rest = behind_it; joins = ap (λ l. l ++ behind_it) level.sent ∙ sym (with_standing (suc c) h) }
            where
              behind_it : List Marked
              behind_it = sent_after target up.shape (kept_above (suc c)) (map u (standing (shows up.commands.signals) (takes up) (raw_at up) (suc c)))
          by_so_far (inr ahead) = record {
            rest = last;
            joins = ap (λ l. l ++ last) ahead.sent ∙ append_assoc (sent_above (suc c)) (kept_above (suc c)) last
                ∙ ap (λ l. sent_above (suc c) ++ l) (sym (sent_is (kept_above (suc c)) ahead.raw true (is_raised ahead.raw.levels.write) (is_raised ahead.raw.more) ahead.acts refl refl) ∙ sym (append-nil (sent_past target up.shape (kept_above (suc c)) (u ahead.raw))))
                ∙ ap (λ l. sent_above (suc c) ++ sent_after target up.shape (kept_above (suc c)) (map u l)) (sym ahead.stood) ∙ sym (with_standing (suc c) h);
          }
            where
              last : List Marked
              last = if is_raised ahead.raw.levels.write && not (not (is_raised ahead.raw.more)) then [] else u ahead.raw ∷ []
      by_held true e = subst₂ (λ l r. IsPrefix l r) (sym below) (sym above) (by_so_far (follows c (omega (arith, h))) (kept_one c))
        where
          parts : (shows down.commands.signals c ≡ true) × (not (takes down c) ≡ true)
          parts = and_parts (shows down.commands.signals c) (not (takes down c)) e

          shown : shows up.commands.signals c ≡ true
          shown = (and_parts (shows up.commands.signals c) (not (takes up c)) (stands_above target room up down state end plan run legal c e)).0

          below : map u (raws down (suc c) ++ raw_at down c ∷ []) ≡ map u (raws down c) ++ u (raw_at down c) ∷ []
          below =
              map-append u (raws down (suc c)) (raw_at down c ∷ [])
              ∙ ap (λ l. l ++ u (raw_at down c) ∷ []) (down_next c false (not-true (takes down c) parts.1) ∙ append-nil (map u (raws down c)))

          above : sent_after target up.shape [] (shown_at up (suc c)) ≡ sent_above c ++ sent_past target up.shape (kept_above c) (u (raw_at up c))
          above =
              ap (sent_after target up.shape []) (shown_with up end legal c h shown ∙ ap (λ m. taken_at up c ++ m ∷ []) (flat_at up end legal up_one c h shown))
              ∙ sent_push target up.shape [] (taken_at up c) (u (raw_at up c))

          through : lane c ≡ true → now_writes c && now_more c ≡ false → sent_past target up.shape (kept_above c) (u (raw_at up c)) ≡ kept_above c ++ u (raw_at up c) ∷ []
          through ea ends =
              sent_is (kept_above c) (raw_at up c) true (now_writes c) (now_more c) ea refl refl
              ∙ ap (λ l. kept_above c ++ (if l then [] else u (raw_at up c) ∷ [])) (ap (λ m. now_writes c && m) (twice (now_more c)) ∙ ends)
            where
              twice : (b : Bool) → not (not b) ≡ b
              twice true = refl
              twice false = refl

          by_so_far : Level c ⊎ Ahead c → OneOf (state.kept c) → IsPrefix (map u (raws down c) ++ u (raw_at down c) ∷ []) (sent_above c ++ sent_past target up.shape (kept_above c) (u (raw_at up c)))
          by_so_far (inl level) (inl none) =
              let two = alone_sends room (shows up.commands.signals c) (now_writes c) (lane c) (now_more c) (state.reads c) (sends_with c [] none parts.0) in
              record {
                rest = [];
                joins = append-nil _ ∙ ap₂ (λ l r. l ++ u r ∷ []) level.sent (beat_with c [] none parts.0)
                    ∙ ap (λ l. sent_above c ++ l) (ap (λ q. q ++ u (raw_at up c) ∷ []) (sym (sym level.kept ∙ ap (map u) none)) ∙ sym (through two.0 two.1));
              }
          by_so_far (inl level) (inr k) = by_lane (lane c) refl
            where
              there : IsKeptAt c k.0
              there = kept_there c (omega (arith, h)) k.0 k.1 level

              front : (a : Bool) → lane c ≡ a → map u (raws down c) ++ u (raw_at down c) ∷ [] ≡ sent_above c ++ record (u k.0) { more = a } ∷ []
              front a ea = ap₂ (λ l r. l ++ u r ∷ []) level.sent (beat_with c (k.0 ∷ []) k.1 parts.0) ∙ ap (λ m. sent_above c ++ m ∷ []) (there.released_as (lane c) ∙ ap (λ b. record (u k.0) { more = b }) ea)

              by_lane : (a : Bool) → lane c ≡ a → IsPrefix (map u (raws down c) ++ u (raw_at down c) ∷ []) (sent_above c ++ sent_past target up.shape (kept_above c) (u (raw_at up c)))
              by_lane true ea = record {
                rest = last;
                joins = ap (λ l. l ++ last) (front true ea ∙ ap (λ m. sent_above c ++ m ∷ []) there.more) ∙ append_assoc (sent_above c) (u k.0 ∷ []) last
                    ∙ ap (λ q. sent_above c ++ (q ++ last)) (sym there.one) ∙ ap (λ l. sent_above c ++ l) (sym (sent_is (kept_above c) (raw_at up c) true (now_writes c) (now_more c) ea refl refl));
              }
                where
                  last : List Marked
                  last = if now_writes c && not (not (now_more c)) then [] else u (raw_at up c) ∷ []
              by_lane false ea =
                  let must = (and_parts (shows up.commands.signals c) (lane c || not (now_more c)) (sends_with c (k.0 ∷ []) k.1 parts.0)).1 in
                  let closing : not (now_more c) ≡ true = ap (λ a. a || not (now_more c)) (sym ea) ∙ must in
                  record {
                    rest = [];
                    joins = append-nil _ ∙ front false ea ∙ ap (λ q. sent_above c ++ map last_one q) (sym there.one)
                        ∙ ap (λ l. sent_above c ++ l) (sym (sent_is (kept_above c) (raw_at up c) false (now_writes c) false ea refl (not-true (now_more c) closing)));
                  }
          by_so_far (inr ahead) q =
              let two = alone_sends room (shows up.commands.signals c) (now_writes c) (lane c) (now_more c) (state.reads c) (sends_with c [] ahead.none parts.0) in
              record {
                rest = [];
                joins = append-nil _ ∙ ap₂ (λ l r. l ++ u r ∷ []) ahead.sent (beat_with c [] ahead.none parts.0)
                    ∙ append_assoc (sent_above c) (kept_above c) (u (raw_at up c) ∷ []) ∙ ap (λ l. sent_above c ++ l) (sym (through two.0 two.1));
              }
