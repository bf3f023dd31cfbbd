-- The arbiter hands on each asker's beats in order, whole commands, and sends the answers back.
use Rattle.std.proofs.Common.{ℕ, zero, suc, ◌<◌, ◌≤◌, ◌≡◌, [], ◌∷◌, ◌++◌, List, Bool, true, false, not, ◌&&◌, ◌||◌, IsTrue, if◌then◌else◌, nat_eq, arith, tests, refl, sym, ap, ap₂, ◌∙◌, subst, Option, Some, None, append-nil}
use Rattle.std.proofs.lemmas.Bool.{and_parts, eqb-true, not-true}
use Rattle.std.proofs.lemmas.List.Elements.{filter-append}
use Rattle.histories.specs.History.{IsPrefix, only_if, is_raised}
use Rattle.histories.specs.Laws.{prefix_refl, shown_is_accepted_and_standing}
use Rattle.memory_runs.specs.Views.{System, Levels, levels_at}
use Rattle.memory_runs.specs.Commands.{shows, is_held, burst_before}
use Rattle.memory_runs.specs.Order.{is_agent, is_joined}
use Rattle.memory_machines.specs.Link.{Port, Marked, takes, marked_at, taken_at, shown_at, closes, AreLegalAt}
use Rattle.memory_machines.specs.Lines.{TaggedPort, with_tag, are_whole}
use Rattle.memory_machines.specs.Machines.{Raw, raw_at, IsFitBeat}
use Rattle.memory_machines.specs.Turns.{Grant, choice_of, open_after, asks_at, ends_at, seats_of}
use Rattle.memory_machines.specs.SideLaws.{marked_keeps}
use Rattle.memory_machines.specs.SideLaws.{fit_when_shown, legal_when_shown}
use Rattle.memory_machines.specs.Lines.{AreFitToAsk}
use Rattle.memory_parts.specs.Arbiter.{IsArbiterMachine}
use Rattle.memory_parts.proofs.Shared.{same_fit}
use Rattle.memory_parts.proofs.ArbiterTurns.{choice, burst_above, burst_below, of_choice, same_raw, none_shown, takes_up, burst_same, same_marked, open_next, of_open}

self_eq : (n : ℕ) → nat_eq n n ≡ true
self_eq n = grind (arith, tests)

swap_eq : (a b : ℕ) (r : Bool) → nat_eq a b ≡ r → nat_eq b a ≡ r
swap_eq a b true e = grind (arith, tests, e)
swap_eq a b false e = grind (arith, tests, e)

nothing : (b : Bool) → (b && false) ≡ false
nothing true = refl
nothing false = refl

whole_and : (b : Bool) → (b && true) ≡ b
whole_and true = refl
whole_and false = refl

-- the last beat of a list closes its joined command, or the next one may bear this tag
abbrev last_fits : List Marked → ℕ → Bool
last_fits [] tag = true
last_fits (m ∷ []) tag = closes m || nat_eq m.tag tag
last_fits (m ∷ next ∷ later) tag = last_fits (next ∷ later) tag

abbrev last_closes : List Marked → Bool
last_closes [] = true
last_closes (m ∷ []) = closes m
last_closes (m ∷ next ∷ later) = last_closes (next ∷ later)

closed_fits : (ms : List Marked) (tag : ℕ) → last_closes ms ≡ true → last_fits ms tag ≡ true
closed_fits [] tag e = refl
closed_fits (m ∷ []) tag e = ap (λ b. b || nat_eq m.tag tag) e
closed_fits (m ∷ next ∷ later) tag e = closed_fits (next ∷ later) tag e

whole_push : (ms : List Marked) (m : Marked) → are_whole ms ≡ true → last_fits ms m.tag ≡ true → are_whole (ms ++ m ∷ []) ≡ true
whole_push [] m all fits = refl
whole_push (x ∷ []) m all fits = ap (λ b. b && true) fits
whole_push (x ∷ y ∷ later) m all fits =
    let parts = and_parts (closes x || nat_eq x.tag y.tag) (are_whole (y ∷ later)) all in
    ap₂ (λ a b. a && b) parts.0 (whole_push (y ∷ later) m parts.1 fits)

last_push : (ms : List Marked) (m : Marked) (tag : ℕ) → last_fits (ms ++ m ∷ []) tag ≡ (closes m || nat_eq m.tag tag)
last_push [] m tag = refl
last_push (x ∷ []) m tag = refl
last_push (x ∷ y ∷ later) m tag = last_push (y ∷ later) m tag

closes_push : (ms : List Marked) (m : Marked) → last_closes (ms ++ m ∷ []) ≡ closes m
closes_push [] m = refl
closes_push (x ∷ []) m = refl
closes_push (x ∷ y ∷ later) m = closes_push (y ∷ later) m

module _ (system : System) (agent : ℕ) (up : ℕ → Port) (down : TaggedPort) (grant : ℕ → Grant) (end : ℕ) (machine : IsArbiterMachine (seats_of system agent) system.hosts up down grant end)
    (joined : (h : ℕ) → IsTrue (is_joined system agent h) → h < system.hosts) (fit : AreFitToAsk system agent up end) where
  abbrev pub chose : ℕ → Option ℕ
  chose c = choice system agent up down grant end machine joined fit c

  -- a beat below is that of the one that is chosen
  pub record Chosen (c : ℕ) : Type 0 where
    pub host : ℕ
    pub is : chose c ≡ Some host
    pub there : host < system.hosts
    pub asks : shows (up host).commands.signals c ≡ true
    pub same : marked_at down.port c ≡ marked_at (up host) c
    pub tag : down.commands.tag c ≡ host

  pub whom : (c : ℕ) → c < end → shows down.commands.signals c ≡ true → Chosen c
  whom c low shown = by_choice (chose c) refl
    where
      by_choice : (o : Option ℕ) → chose c ≡ o → Chosen c
      by_choice None is = let none = none_shown system agent up down grant end machine joined fit c low is in let bad : ⊥ = cc in absurd bad
      by_choice (Some k) is =
          let of = of_choice system agent up down grant end machine joined fit c k low is in
          record {
            host = k;
            is = is;
            there = of.0;
            asks = of.1;
            same = same_marked system agent up down grant end machine joined fit c k low is;
            tag = ap (λ (r : Raw). r.tag) (same_raw system agent up down grant end machine joined fit c k low is) ∙ (fit k of.0).tag c low of.1;
          }

  taken_shows : (c : ℕ) → takes down.port c ≡ true → shows down.commands.signals c ≡ true
  taken_shows c taken = (and_parts (shows down.commands.signals c) (not (is_raised (down.commands.waitrequest c))) taken).0

  takes_of : (h c : ℕ) → h < system.hosts → c < end → (w : Chosen c) → takes (up h) c ≡ (takes down.port c && nat_eq h w.host)
  takes_of h c there low w = takes_up system agent up down grant end machine joined fit h c there low ∙ ap (λ o. takes down.port c && is_agent h o) w.is

  -- what is taken below under a tag is what is taken from that asker
  pub taken_same : (h c : ℕ) → h < system.hosts → c ≤ end → with_tag h (taken_at down.port c) ≡ taken_at (up h) c
  taken_same h zero there low = refl
  taken_same h (suc c) there low =
      filter-append (λ (m : Marked). nat_eq m.tag h) (taken_at down.port c) (only_if (takes down.port c) (marked_at down.port c))
      ∙ ap₂ (λ x y. x ++ y) (taken_same h c there (omega arith)) (by_taken (takes down.port c) refl)
    where
      by_taken : (b : Bool) → takes down.port c ≡ b → with_tag h (only_if (takes down.port c) (marked_at down.port c)) ≡ only_if (takes (up h) c) (marked_at (up h) c)
      by_taken false is =
          let none : takes (up h) c ≡ false = takes_up system agent up down grant end machine joined fit h c there low ∙ ap (λ b. b && is_agent h (chose c)) is in
          ap (λ b. with_tag h (only_if b (marked_at down.port c))) is ∙ sym (ap (λ b. only_if b (marked_at (up h) c)) none)
      by_taken true is =
          let w = whom c low (taken_shows c is) in
          ap (λ b. with_tag h (only_if b (marked_at down.port c))) is ∙ by_tag w (nat_eq h w.host) refl
        where
          by_tag : (w : Chosen c) (b : Bool) → nat_eq h w.host ≡ b → with_tag h (marked_at down.port c ∷ []) ≡ only_if (takes (up h) c) (marked_at (up h) c)
          by_tag w b e =
              let tag : nat_eq (down.commands.tag c) h ≡ b = ap (λ t. nat_eq t h) w.tag ∙ swap_eq h w.host b e in
              let up_takes : takes (up h) c ≡ b = takes_of h c there low w ∙ ap₂ (λ x y. x && y) is e in
              one b e tag up_takes
            where
              one : (b : Bool) → nat_eq h w.host ≡ b → nat_eq (down.commands.tag c) h ≡ b → takes (up h) c ≡ b → with_tag h (marked_at down.port c ∷ []) ≡ only_if (takes (up h) c) (marked_at (up h) c)
              one true e tag taken = let same : h ≡ w.host = eqb-true h w.host e in rw (tag, taken) (ap (λ m. m ∷ []) (w.same ∙ ap (λ h. marked_at (up h) c) (sym same)))
              one false e tag taken = rw (tag, taken) refl

  -- ---- what is shown is legal

  fit_below : (c : ℕ) → c < end → shows down.commands.signals c ≡ true → IsFitBeat down.shape (burst_before down.shape down.commands.signals (takes down.port) c) (raw_at down.port c)
  fit_below c low shown =
      let w = whom c low shown in
      let above = fit_when_shown (up w.host) end c (fit w.host w.there).legal low w.asks in
      let moved = subst (λ s. IsFitBeat s (burst_above system agent up down grant end machine joined fit w.host c) (raw_at (up w.host) c)) (machine.shapes w.host w.there) above in
      subst (IsFitBeat down.shape (burst_below system agent up down grant end machine joined fit c)) (sym (same_raw system agent up down grant end machine joined fit c w.host low w.is))
      (same_fit down.shape (raw_at (up w.host) c) (burst_above system agent up down grant end machine joined fit w.host c) (burst_below system agent up down grant end machine joined fit c) (burst_same system agent up down grant end machine joined fit c w.host low w.is) moved)

  -- the host of a beat that waits goes on
  stays_open : (c h : ℕ) → suc c < end → chose c ≡ Some h → takes down.port c ≡ false → (grant (suc c)).open_host ≡ Some h
  stays_open c h low is none =
      open_next system agent up down grant end machine joined fit c low ∙ ap (λ o. open_after (grant c).open_host o (ends_at up down.port c)) is
      ∙ ap (λ b. if b && closes (marked_at (up h) c) then None else Some h) none

  chosen_open : (c h : ℕ) → (grant c).open_host ≡ Some h → shows (up h).commands.signals c ≡ true → chose c ≡ Some h
  chosen_open c h is asks = ap (λ o. (choice_of o (asks_at up c) (grant c).round).host) is ∙ ap (λ b. if b then Some h else None) asks

  held_below : (c : ℕ) → suc c < end → is_held down.commands.signals (takes down.port) c ≡ true → raw_at down.port c ≡ raw_at down.port (suc c)
  held_below c low held =
      let parts = and_parts (shows down.commands.signals c) (not (takes down.port c)) held in
      let none : takes down.port c ≡ false = not-true (takes down.port c) parts.1 in
      let w = whom c (omega arith) parts.0 in
      let h = w.host in
      let legal = (fit w.host w.there).legal in
      let refused : takes (up w.host) c ≡ false = takes_of w.host c w.there (omega arith) w ∙ ap (λ b. b && nat_eq w.host w.host) none in
      let stands : is_held (up w.host).commands.signals (takes (up w.host)) c ≡ true = ap₂ (λ s t. s && not t) w.asks refused in
      let levels = legal.legal.held c low stands in
      let on : shows (up w.host).commands.signals (suc c) ≡ true = ap (λ (l : Levels). is_raised l.read || is_raised l.write) (sym levels) ∙ w.asks in
      let next = chosen_open (suc c) w.host (stays_open c w.host low w.is none) on in
      same_raw system agent up down grant end machine joined fit c w.host (omega arith) w.is
      ∙ ap (λ l. record { levels = l; more = (up w.host).commands.more c; tag = (up w.host).commands.tag c }) levels
      ∙ ap₂ (λ machine t. record { levels = levels_at (up w.host).commands.signals (suc c); more = machine; tag = t }) (legal.more c low stands) (legal.tag c low stands)
      ∙ sym (same_raw system agent up down grant end machine joined fit (suc c) w.host low next)

  pub legal_below : AreLegalAt down.port end
  legal_below = legal_when_shown down.shape down.commands down.answers end fit_below held_below

  -- ---- what is shown under a tag

  pub shown_front : (h c : ℕ) → h < system.hosts → c ≤ end → IsPrefix (with_tag h (shown_at down.port c)) (shown_at (up h) c)
  shown_front h zero there low = prefix_refl []
  shown_front h (suc c) there low =
      let below = shown_is_accepted_and_standing _ _ (marked_at down.port) end (suc c) (marked_keeps down.port end legal_below) low in
      let above = shown_is_accepted_and_standing _ _ (marked_at (up h)) end (suc c) (marked_keeps (up h) end (fit h there).legal) low in
      let left : with_tag h (shown_at down.port (suc c)) ≡ taken_at (up h) (suc c) ++ with_tag h (only_if (is_held down.commands.signals (takes down.port) c) (marked_at down.port c)) =
      ap (with_tag h) below ∙ filter-append (λ (m : Marked). nat_eq m.tag h) (taken_at down.port (suc c)) (only_if (is_held down.commands.signals (takes down.port) c) (marked_at down.port c))
      ∙ ap (λ l. l ++ with_tag h (only_if (is_held down.commands.signals (takes down.port) c) (marked_at down.port c))) (taken_same h (suc c) there low) in
      subst (λ l. IsPrefix l (shown_at (up h) (suc c))) (sym left) (subst (λ l. IsPrefix (taken_at (up h) (suc c) ++ with_tag h (only_if (is_held down.commands.signals (takes down.port) c) (marked_at down.port c))) l) (sym above)
      (by_held (is_held down.commands.signals (takes down.port) c) refl))
    where
      behind : (front : List Marked) {xs ys : List Marked} → IsPrefix xs ys → IsPrefix (front ++ xs) (front ++ ys)
      behind [] p = p
      behind (x ∷ front) p = let q = behind front p in record { rest = q.rest; joins = ap (λ l. x ∷ l) q.joins }

      by_held : (b : Bool) → is_held down.commands.signals (takes down.port) c ≡ b →
          IsPrefix (taken_at (up h) (suc c) ++ with_tag h (only_if (is_held down.commands.signals (takes down.port) c) (marked_at down.port c))) (taken_at (up h) (suc c) ++ only_if (is_held (up h).commands.signals (takes (up h)) c) (marked_at (up h) c))
      by_held false is = behind (taken_at (up h) (suc c)) (subst (λ b. IsPrefix (with_tag h (only_if b (marked_at down.port c))) (only_if (is_held (up h).commands.signals (takes (up h)) c) (marked_at (up h) c))) (sym is) (record { rest = _; joins = refl }))
      by_held true is =
          let parts = and_parts (shows down.commands.signals c) (not (takes down.port c)) is in
          let none : takes down.port c ≡ false = not-true (takes down.port c) parts.1 in
          let w = whom c low parts.0 in
          behind (taken_at (up h) (suc c)) (subst (λ b. IsPrefix (with_tag h (only_if b (marked_at down.port c))) (only_if (is_held (up h).commands.signals (takes (up h)) c) (marked_at (up h) c))) (sym is) (by_tag w none (nat_eq h w.host) refl))
        where
          by_tag : (w : Chosen c) → takes down.port c ≡ false → (b : Bool) → nat_eq h w.host ≡ b → IsPrefix (with_tag h (marked_at down.port c ∷ [])) (only_if (is_held (up h).commands.signals (takes (up h)) c) (marked_at (up h) c))
          by_tag w none false e =
              let tag : nat_eq (down.commands.tag c) h ≡ false = ap (λ t. nat_eq t h) w.tag ∙ swap_eq h w.host false e in
              subst (λ l. IsPrefix l (only_if (is_held (up h).commands.signals (takes (up h)) c) (marked_at (up h) c))) (sym (ap (λ b. if b then marked_at down.port c ∷ [] else []) tag)) (record { rest = _; joins = refl })
          by_tag w none true e =
              let same : h ≡ w.host = eqb-true h w.host e in
              let tag : nat_eq (down.commands.tag c) h ≡ true = ap (λ t. nat_eq t h) w.tag ∙ swap_eq h w.host true e in
              let refused : takes (up h) c ≡ false = takes_of h c there low w ∙ ap (λ b. b && nat_eq h w.host) none in
              let asks : shows (up h).commands.signals c ≡ true = subst (λ k. shows (up k).commands.signals c ≡ true) (sym same) w.asks in
              let stands : is_held (up h).commands.signals (takes (up h)) c ≡ true = ap₂ (λ s t. s && not t) asks refused in
              let it : marked_at down.port c ≡ marked_at (up h) c = w.same ∙ ap (λ h. marked_at (up h) c) (sym same) in
              subst (λ l. IsPrefix l (only_if (is_held (up h).commands.signals (takes (up h)) c) (marked_at (up h) c))) (sym (ap (λ b. if b then marked_at down.port c ∷ [] else []) tag))
              (subst (λ b. IsPrefix (marked_at down.port c ∷ []) (only_if b (marked_at (up h) c))) (sym stands) (subst (λ x. IsPrefix (marked_at down.port c ∷ []) (x ∷ [])) it (prefix_refl _)))

  -- ---- whole commands

  abbrev OpenFits : ℕ → Option ℕ → Type 0
  OpenFits c None = last_closes (taken_at down.port c) ≡ true
  OpenFits c (Some h) = last_fits (taken_at down.port c) h ≡ true

  fits_chosen : (c h : ℕ) (o : Option ℕ) → (grant c).open_host ≡ o → OpenFits c o → chose c ≡ Some h → last_fits (taken_at down.port c) h ≡ true
  fits_chosen c h None e fits is = closed_fits (taken_at down.port c) h fits
  fits_chosen c h (Some k) e fits is = let same : h ≡ k = of_open (grant c).open_host (asks_at up c) (grant c).round k h e is in subst (λ h. last_fits (taken_at down.port c) h ≡ true) (sym same) fits

  record IsWhole (c : ℕ) : Type 0 where
    all : are_whole (taken_at down.port c) ≡ true
    holder : OpenFits c (grant c).open_host

  fits_any : (c : ℕ) → IsWhole c → (h : ℕ) → chose c ≡ Some h → last_fits (taken_at down.port c) h ≡ true
  fits_any c whole h is = fits_chosen c h (grant c).open_host refl whole.holder is

  -- the beat that is shown may follow what was taken
  may_follow : (c : ℕ) → IsWhole c → (w : Chosen c) → last_fits (taken_at down.port c) (marked_at down.port c).tag ≡ true
  may_follow c whole w = subst (λ t. last_fits (taken_at down.port c) t ≡ true) (sym w.tag) (fits_any c whole w.host w.is)

  all_next : (c : ℕ) → c < end → IsWhole c → (b : Bool) → takes down.port c ≡ b → are_whole (taken_at down.port (suc c)) ≡ true
  all_next c low whole true is = ap (λ b. are_whole (taken_at down.port c ++ only_if b (marked_at down.port c))) is ∙ whole_push (taken_at down.port c) (marked_at down.port c) whole.all (may_follow c whole (whom c low (taken_shows c is)))
  all_next c low whole false is = ap (λ b. are_whole (taken_at down.port c ++ only_if b (marked_at down.port c))) is ∙ ap are_whole (append-nil (taken_at down.port c)) ∙ whole.all

  whole_at : (c : ℕ) → c < end → IsWhole c
  whole_at zero low = record { all = refl; holder = subst (OpenFits 0) (ap (λ (g : Grant). g.open_host) (sym machine.begins)) refl }
  whole_at (suc c) low = next (whole_at c (omega arith))
    where
      still : takes down.port c ≡ false → taken_at down.port (suc c) ≡ taken_at down.port c
      still none = ap (λ b. taken_at down.port c ++ only_if b (marked_at down.port c)) none ∙ append-nil (taken_at down.port c)

      same_open : (o : Option ℕ) → takes down.port c ≡ false → OpenFits c o → OpenFits (suc c) o
      same_open None none fits = ap last_closes (still none) ∙ fits
      same_open (Some k) none fits = ap (λ l. last_fits l k) (still none) ∙ fits

      next : IsWhole c → IsWhole (suc c)
      next whole = record { all = all_next c (omega arith) whole (takes down.port c) refl; holder = by_choice (chose c) refl }
        where
          by_choice : (o : Option ℕ) → chose c ≡ o → OpenFits (suc c) (grant (suc c)).open_host
          by_choice None is =
              let quiet : takes down.port c ≡ false = ap (λ s. s && not (is_raised (down.commands.waitrequest c))) (none_shown system agent up down grant end machine joined fit c (omega arith) is) in
              let same : (grant (suc c)).open_host ≡ (grant c).open_host = open_next system agent up down grant end machine joined fit c low ∙ ap (λ o. open_after (grant c).open_host o (ends_at up down.port c)) is in
              subst (OpenFits (suc c)) (sym same) (same_open (grant c).open_host quiet whole.holder)
          by_choice (Some k) is = subst (OpenFits (suc c)) (sym opened) (by_taken (takes down.port c) (closes (marked_at (up k) c)) refl refl)
            where
              opened : (grant (suc c)).open_host ≡ (if takes down.port c && closes (marked_at (up k) c) then None else Some k)
              opened = open_next system agent up down grant end machine joined fit c low ∙ ap (λ o. open_after (grant c).open_host o (ends_at up down.port c)) is

              it : marked_at down.port c ≡ marked_at (up k) c
              it = same_marked system agent up down grant end machine joined fit c k (omega arith) is

              tag : down.commands.tag c ≡ k
              tag = let of = of_choice system agent up down grant end machine joined fit c k (omega arith) is in ap (λ (r : Raw). r.tag) (same_raw system agent up down grant end machine joined fit c k (omega arith) is) ∙ (fit k of.0).tag c (omega arith) of.1

              by_taken : (t e : Bool) → takes down.port c ≡ t → closes (marked_at (up k) c) ≡ e → OpenFits (suc c) (if takes down.port c && closes (marked_at (up k) c) then None else Some k)
              by_taken true true t e =
                  subst (OpenFits (suc c)) (sym (ap₂ (λ t e. if t && e then None else Some k) t e)) (ap (λ b. last_closes (taken_at down.port c ++ only_if b (marked_at down.port c))) t ∙ closes_push (taken_at down.port c) (marked_at down.port c) ∙ ap closes it ∙ e)
              by_taken true false t e =
                  subst (OpenFits (suc c)) (sym (ap₂ (λ t e. if t && e then None else Some k) t e)) (ap (λ b. last_fits (taken_at down.port c ++ only_if b (marked_at down.port c)) k) t ∙ last_push (taken_at down.port c) (marked_at down.port c) k ∙ ap₂ (λ a b. a || b) refl (ap (λ t. nat_eq t k) tag ∙ self_eq k) ∙ or_true (closes (marked_at down.port c)))
                where
                  or_true : (b : Bool) → (b || true) ≡ true
                  or_true true = refl
                  or_true false = refl
              by_taken false e t closes_so =
                  subst (OpenFits (suc c)) (sym (ap (λ t. if t && closes (marked_at (up k) c) then None else Some k) t)) (ap (λ l. last_fits l k) (still t) ∙ fits_any c whole k is)

  pub whole_shown : (c : ℕ) → c ≤ end → are_whole (shown_at down.port c) ≡ true
  whole_shown zero low = refl
  whole_shown (suc c) low =
      let below = shown_is_accepted_and_standing _ _ (marked_at down.port) end (suc c) (marked_keeps down.port end legal_below) low in
      ap are_whole below ∙ by_held (is_held down.commands.signals (takes down.port) c) refl
    where
      by_held : (b : Bool) → is_held down.commands.signals (takes down.port) c ≡ b → are_whole (taken_at down.port (suc c) ++ only_if (is_held down.commands.signals (takes down.port) c) (marked_at down.port c)) ≡ true
      by_held false is = ap (λ b. are_whole (taken_at down.port (suc c) ++ only_if b (marked_at down.port c))) is ∙ ap are_whole (append-nil (taken_at down.port (suc c))) ∙ all_next c low (whole_at c low) (takes down.port c) refl
      by_held true is =
          let parts = and_parts (shows down.commands.signals c) (not (takes down.port c)) is in
          let none : takes down.port c ≡ false = not-true (takes down.port c) parts.1 in
          let still : taken_at down.port (suc c) ≡ taken_at down.port c = ap (λ b. taken_at down.port c ++ only_if b (marked_at down.port c)) none ∙ append-nil (taken_at down.port c) in
          let whole = whole_at c low in
          ap₂ (λ l b. are_whole (l ++ only_if b (marked_at down.port c))) still is ∙ whole_push (taken_at down.port c) (marked_at down.port c) whole.all (may_follow c whole (whom c low parts.0))
