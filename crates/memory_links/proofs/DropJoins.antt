-- Alike commands are dropped from in order, and what is sent below of them is alike.
use Rattle.std.proofs.Common.{◌≡◌, Bool, true, false, not, ◌&&◌, ◌||◌, List, [], ◌∷◌, ◌++◌, refl, sym, ap, ap₂, subst, ◌∙◌, nat_eq, IsTrue}
use Rattle.std.proofs.lemmas.Bool.{and_parts, and_from, or_left, or_right, eqb-true, eq-eqb}
use Rattle.memory_runs.specs.Views.{Shape}
use Rattle.memory_runs.specs.Commands.{is_of_reads}
use Rattle.memory_machines.specs.Link.{Target, Port, Marked, closes, is_nonempty, acted_after, is_last_joined}
use Rattle.memory_machines.specs.PartRanks.{are_joined_alike, goes_on_alike, is_same}
use Rattle.memory_machines.specs.Rank.{is_last_write}
use Rattle.memory_links.proofs.Stages.{tail_alike}
use Rattle.memory_links.proofs.DropLists.{acts, writes, last_one, kept_after, sent_after, kept_by, sent_by, IsKept, IsEmptyOf, Drops}
use Rattle.memory_links.proofs.DropLists.Drops.{ended, waits, goes, keeps, releases, ends_with, skips, passes}

-- each is a command by itself, but for `more`
abbrev pub AllEnd : List Marked → Type 0
AllEnd [] = Unit {0}
AllEnd (m ∷ ms) = (m.transfer.ends ≡ true) × AllEnd ms

none_of : {A : Type 0} (l : List A) → is_nonempty l ≡ false → l ≡ []
none_of [] e = refl
none_of (x ∷ l) e = cc

same_is : (a b : Bool) → IsTrue (is_same a b) → a ≡ b
same_is true b h = sym h
same_is false true h = cc
same_is false false h = refl

is_same_from : (a b : Bool) → a ≡ b → IsTrue (is_same a b)
is_same_from true b h = sym h
is_same_from false true h = cc
is_same_from false false h = refl

not_both : (b : Bool) → b ≡ true → b ≡ false → ⊥
not_both true h k = cc
not_both false h k = cc

module _ (target : Target) (port : Port) where
  abbrev shape : Shape
  shape = port.shape

  abbrev D : List Marked → Bool → List Marked → List Marked → List Marked → Type 0
  D q a us ds r = Drops target shape q a us ds r

  abbrev Joined : List Marked → Type 0
  Joined ms = IsTrue (are_joined_alike target port ms)

  record GoesOn (m next : Marked) : Type 0 where
    pub tag : m.tag ≡ next.tag
    pub kind : is_of_reads m.transfer.kind ≡ is_of_reads next.transfer.kind
    pub acts : is_of_reads m.transfer.kind ≡ true → acts target shape m ≡ acts target shape next

  goes_on : (m next : Marked) → IsTrue (goes_on_alike target port m next) → GoesOn m next
  goes_on m next h =
      let outer = and_parts (nat_eq m.tag next.tag && is_same (is_of_reads m.transfer.kind) (is_of_reads next.transfer.kind)) (not (is_of_reads m.transfer.kind) || is_same (acts target shape m) (acts target shape next)) h in
      let inner = and_parts (nat_eq m.tag next.tag) (is_same (is_of_reads m.transfer.kind) (is_of_reads next.transfer.kind)) outer.0 in
      record {
        tag = eqb-true m.tag next.tag inner.0;
        kind = same_is (is_of_reads m.transfer.kind) (is_of_reads next.transfer.kind) inner.1;
        acts = λ r. same_is _ _ (of_reads (is_of_reads m.transfer.kind) r outer.1);
      }
    where
      of_reads : {x : Bool} (r : Bool) → r ≡ true → IsTrue (not r || x) → IsTrue x
      of_reads true e h = h
      of_reads false e h = cc

  from_goes_on : (m next : Marked) → GoesOn m next → IsTrue (goes_on_alike target port m next)
  from_goes_on m next g =
      and_from _ _ (and_from _ _ (eq-eqb m.tag next.tag g.tag) (is_same_from (is_of_reads m.transfer.kind) (is_of_reads next.transfer.kind) g.kind)) (by_reads (is_of_reads m.transfer.kind) (λ r. is_same_from _ _ (g.acts r)))
    where
      by_reads : {x : Bool} (r : Bool) → (r ≡ true → IsTrue x) → IsTrue (not r || x)
      by_reads true f = f refl
      by_reads false f = refl

  link : (m next : Marked) (later : List Marked) → Joined (m ∷ next ∷ later) → IsTrue (closes m || goes_on_alike target port m next)
  link m next later h = (and_parts (closes m || goes_on_alike target port m next) (are_joined_alike target port (next ∷ later)) h).0

  when_open : (m next : Marked) (later : List Marked) → Joined (m ∷ next ∷ later) → closes m ≡ false → GoesOn m next
  when_open m next later h e = goes_on m next (by_close (closes m) e (link m next later h))
    where
      by_close : {x : Bool} (b : Bool) → b ≡ false → IsTrue (b || x) → IsTrue x
      by_close true e h = cc
      by_close false e h = h

  open_kept : (k : Marked) → IsKept target shape k → closes k ≡ false
  open_kept k is = ap₂ (λ e m. e && not m) is.ends is.more

  -- what goes on with an empty write goes on with the kept one too
  around : (k m : Marked) (us : List Marked) → IsKept target shape k → IsEmptyOf target shape k m → m.more ≡ true → Joined (k ∷ m ∷ us) → Joined (k ∷ us)
  around k m [] is empty more h = refl
  around k m (n ∷ us) is empty more h =
      let first = when_open k m (n ∷ us) h (open_kept k is) in
      let rest = tail_alike target port k (m ∷ n ∷ us) h in
      let second = when_open m n us rest (ap₂ (λ e b. e && not b) empty.ends more) in
      and_from _ _ (or_right (closes k) _ (from_goes_on k n (record { tag = first.tag ∙ second.tag; kind = first.kind ∙ second.kind; acts = λ r. absurd (not_both (is_of_reads k.transfer.kind) r is.kind) })))
      (tail_alike target port m (n ∷ us) rest)

  skip_closed : (p m : Marked) (us : List Marked) → closes p ≡ true → Joined (p ∷ m ∷ us) → Joined (p ∷ us)
  skip_closed p m [] close h = refl
  skip_closed p m (n ∷ us) close h = and_from _ _ (or_left _ _ close) (tail_alike target port m (n ∷ us) (tail_alike target port p (m ∷ n ∷ us) h))

  pub after_closed : (p : Marked) (us : List Marked) → closes p ≡ true → Joined us → Joined (p ∷ us)
  after_closed p [] close all = refl
  after_closed p (n ∷ us) close all = and_from _ _ (or_left _ _ close) all

  no_or : (b : Bool) → b || false ≡ true → b ≡ true
  no_or true e = refl
  no_or false e = e

  -- what is sent is alike: `p` was sent before
  pub alike_below : (p : Marked) {q : List Marked} {a : Bool} {us ds r : List Marked} → closes p || a ≡ true → D q a us ds r → Joined (p ∷ q ++ us) → Joined (p ∷ ds)
  alike_below p so (ended a) h = refl
  alike_below p so (waits a k is) h = refl
  alike_below p so (goes a m us ds r act ends rest) h =
      and_from _ _ (link p m us h) (alike_below m (by_close (closes m) (ap (λ b. a || b) act ∙ or_right a true refl)) rest (tail_alike target port p (m ∷ us) h))
    where
      by_close : {x : Bool} (c : Bool) → x ≡ true → c || (not c && x) ≡ true
      by_close true e = refl
      by_close false e = e
  alike_below p so (keeps a m us ds r is rest) h = alike_below p so rest h
  alike_below p so (releases a k m us ds r is rest) h = and_from _ _ (link p k (m ∷ us) h) (alike_below k (or_right (closes k) true refl) rest (tail_alike target port p (k ∷ m ∷ us) h))
  alike_below p so (ends_with a k m us ds r is empty more rest) h =
      let close : closes (last_one k) ≡ true = ap (λ e. e && true) is.ends in
      let behind = tail_alike target port m us (tail_alike target port k (m ∷ us) (tail_alike target port p (k ∷ m ∷ us) h)) in
      and_from _ _ (link p k (m ∷ us) h) (alike_below (last_one k) (or_left _ false close) rest (after_closed (last_one k) us close behind))
  alike_below p so (skips m us ds r empty ends rest) h = alike_below p so rest (skip_closed p m us (no_or (closes p) so) h)
  alike_below p so (passes a k m us ds r is empty more rest) h =
      alike_below p so rest (and_from _ _ (link p k (m ∷ us) h) (around k m us is empty more (tail_alike target port p (k ∷ m ∷ us) h)))

  -- ---- the last of all

  pub record EndsLike (ms ns : List Marked) : Type 0 where
    pub joined : is_last_joined ns ≡ true
    pub write : is_last_write ns ≡ is_last_write ms

  -- what is left open below is left open above, and is of one kind
  pub open_above : (p : Marked) {q : List Marked} {a : Bool} {us ds r : List Marked} → p.transfer.ends ≡ true → closes p || a ≡ true → D q a us ds r → Joined (p ∷ q ++ us) → is_last_joined (p ∷ ds) ≡ true → EndsLike (p ∷ ds) (p ∷ q ++ us)
  open_above p ends so (ended a) h left = record { joined = left; write = refl }
  open_above p ends so (waits a k is) h left = record { joined = is.more; write = ap not (sym (when_open p k [] h (ap₂ (λ e b. e && not b) ends left)).kind) }
  open_above p ends so (goes a m us ds r act e rest) h left =
      let there = open_above m e (by_close (closes m) (ap (λ b. a || b) act ∙ or_right a true refl)) rest (tail_alike target port p (m ∷ us) h) left in
      record { joined = there.joined; write = there.write }
    where
      by_close : {x : Bool} (c : Bool) → x ≡ true → c || (not c && x) ≡ true
      by_close true e = refl
      by_close false e = e
  open_above p ends so (keeps a m us ds r is rest) h left = open_above p ends so rest h left
  open_above p ends so (releases a k m us ds r is rest) h left =
      let there = open_above k is.ends (or_right (closes k) true refl) rest (tail_alike target port p (k ∷ m ∷ us) h) left in
      record { joined = there.joined; write = there.write }
  open_above p ends so (ends_with a k m us ds r is empty more rest) h left =
      let close : closes (last_one k) ≡ true = ap (λ e. e && true) is.ends in
      let behind = tail_alike target port m us (tail_alike target port k (m ∷ us) (tail_alike target port p (k ∷ m ∷ us) h)) in
      by_later us (open_above (last_one k) is.ends (or_left _ false close) rest (after_closed (last_one k) us close behind) left)
    where
      by_later : (us : List Marked) → EndsLike (last_one k ∷ ds) (last_one k ∷ us) → EndsLike (p ∷ last_one k ∷ ds) (p ∷ k ∷ m ∷ us)
      by_later [] there = let bad = there.joined in cc
      by_later (n ∷ us) there = record { joined = there.joined; write = there.write }
  open_above p ends so (skips m us ds r empty e rest) h left =
      let close = no_or (closes p) so in
      by_later us (open_above p ends so rest (skip_closed p m us close h) left)
    where
      by_later : (us : List Marked) → EndsLike (p ∷ ds) (p ∷ us) → EndsLike (p ∷ ds) (p ∷ m ∷ us)
      by_later [] there = absurd (not_both (closes p) (no_or (closes p) so) (ap₂ (λ e b. e && not b) ends there.joined))
      by_later (n ∷ us) there = record { joined = there.joined; write = there.write }
  open_above p ends so (passes a k m us ds r is empty more rest) h left =
      by_later us (open_above p ends so rest (and_from _ _ (link p k (m ∷ us) h) (around k m us is empty more (tail_alike target port p (k ∷ m ∷ us) h))) left)
    where
      by_later : (us : List Marked) → EndsLike (p ∷ ds) (p ∷ k ∷ us) → EndsLike (p ∷ ds) (p ∷ k ∷ m ∷ us)
      by_later [] there = record { joined = more; write = ap not (empty.kind ∙ sym is.kind) ∙ there.write }
      by_later (n ∷ us) there = record { joined = there.joined; write = there.write }

  pub record EndsInWrite (ms : List Marked) : Type 0 where
    pub joined : is_last_joined ms ≡ true
    pub write : is_last_write ms ≡ true

  write_behind : (m : Marked) (us : List Marked) → EndsInWrite us → EndsInWrite (m ∷ us)
  write_behind m [] there = let bad = there.joined in cc
  write_behind m (n ∷ us) there = record { joined = there.joined; write = there.write }

  -- while a beat is kept a write is left open above
  pub kept_is_open : {q : List Marked} {a : Bool} {us ds r : List Marked} → D q a us ds r → is_nonempty r ≡ true → EndsInWrite (q ++ us)
  kept_is_open (ended a) some = cc
  kept_is_open (waits a k is) some = record { joined = is.more; write = ap not is.kind }
  kept_is_open (goes a m us ds r act ends rest) some = write_behind m us (kept_is_open rest some)
  kept_is_open (keeps a m us ds r is rest) some = kept_is_open rest some
  kept_is_open (releases a k m us ds r is rest) some = write_behind k (m ∷ us) (kept_is_open rest some)
  kept_is_open (ends_with a k m us ds r is empty more rest) some = write_behind k (m ∷ us) (write_behind m us (kept_is_open rest some))
  kept_is_open (skips m us ds r empty ends rest) some = write_behind m us (kept_is_open rest some)
  kept_is_open (passes a k m us ds r is empty more rest) some = by_later us (kept_is_open rest some)
    where
      by_later : (us : List Marked) → EndsInWrite (k ∷ us) → EndsInWrite (k ∷ m ∷ us)
      by_later [] there = record { joined = more; write = ap not empty.kind }
      by_later (n ∷ us) there = record { joined = there.joined; write = there.write }

  -- ---- alike commands are dropped from so

  -- where the transfer before leaves them
  pub data Stands (p : Marked) : List Marked → Bool → Type 0 where
    free : closes p ≡ true → Stands p [] false
    reading : closes p ≡ false → is_of_reads p.transfer.kind ≡ true → Stands p [] (acts target shape p)
    empty : closes p ≡ false → is_of_reads p.transfer.kind ≡ false → Stands p [] false
    kept : (a : Bool) (k : Marked) → closes p ≡ false → is_of_reads p.transfer.kind ≡ false → IsKept target shape k → k.tag ≡ p.tag → Stands p (k ∷ []) a

  has_more : (m : Marked) → m.transfer.ends ≡ true → (c : Bool) → closes m ≡ c → m.more ≡ not c
  has_more m ends c e = by_more m.more refl c (sym e ∙ ap (λ b. b && not m.more) ends)
    where
      by_more : (b : Bool) → m.more ≡ b → (c : Bool) → c ≡ not m.more → m.more ≡ not c
      by_more true f true g = absurd (not_both true refl (g ∙ ap not f))
      by_more true f false g = f
      by_more false f true g = f
      by_more false f false g = absurd (not_both false (g ∙ ap not f) refl)

  kind_of : (m : Marked) (w : Bool) → writes m ≡ w → is_of_reads m.transfer.kind ≡ not w
  kind_of m w e = flip (is_of_reads m.transfer.kind) w e
    where
      flip : (b w : Bool) → not b ≡ w → b ≡ not w
      flip true true e = cc
      flip true false e = refl
      flip false true e = refl
      flip false false e = cc

  acted_as : (a : Bool) (m : Marked) → acts target shape m ≡ true → (c : Bool) → closes m ≡ c → acted_after target shape a m ≡ not c
  acted_as a m act c e = ap₂ (λ c b. not c && b) e (ap (λ b. a || b) act ∙ or_right a true refl) ∙ by_close c
    where
      by_close : (c : Bool) → not c && true ≡ not c
      by_close true = refl
      by_close false = refl

  abbrev SoOn : List Marked → Bool → List Marked → Type 0
  SoOn q a us = D q a us (sent_after target shape q us) (kept_after target shape q us)

  one_more : (p m : Marked) (us : List Marked) → m.transfer.ends ≡ true → Joined (p ∷ m ∷ us) → ((q : List Marked) (a : Bool) → Stands m q a → SoOn q a us) → (q : List Marked) (a : Bool) → Stands p q a → SoOn q a (m ∷ us)
  one_more p m us e_m h again q a stands = by_stands q a stands (acts target shape m) refl (writes m) refl (closes m) refl
    where
      free_now : closes m ≡ true → D [] false us (sent_after target shape [] us) (kept_after target shape [] us)
      free_now close = again [] false (free close)

      keeps_now : (a : Bool) (k : Marked) → closes m ≡ false → writes m ≡ true → IsKept target shape k → k.tag ≡ m.tag → D (k ∷ []) a us (sent_after target shape (k ∷ []) us) (kept_after target shape (k ∷ []) us)
      keeps_now a k e w is tag = again (k ∷ []) a (kept a k e (kind_of m true w) is tag)

      is_kept : acts target shape m ≡ true → writes m ≡ true → closes m ≡ false → IsKept target shape m
      is_kept x w c = record { acts = x; kind = kind_of m true w; more = has_more m e_m false c; ends = e_m }

      -- with an operation, and nothing kept
      with_one : (a w c : Bool) → acts target shape m ≡ true → writes m ≡ w → closes m ≡ c → D [] a (m ∷ us) (sent_by true w c [] m ++ sent_after target shape (kept_by true w c [] m) us) (kept_after target shape (kept_by true w c [] m) us)
      with_one a true false x w c = keeps a m us _ _ (is_kept x w c) (keeps_now a m c w (is_kept x w c) refl)
      with_one a true true x w c = goes a m us _ _ x e_m (subst (λ b. D [] b us (sent_after target shape [] us) (kept_after target shape [] us)) (sym (acted_as a m x true c)) (free_now c))
      with_one a false true x w c = goes a m us _ _ x e_m (subst (λ b. D [] b us (sent_after target shape [] us) (kept_after target shape [] us)) (sym (acted_as a m x true c)) (free_now c))
      with_one a false false x w c =
          goes a m us _ _ x e_m (subst (λ b. D [] b us (sent_after target shape [] us) (kept_after target shape [] us)) (x ∙ sym (acted_as a m x false c)) (again [] (acts target shape m) (reading c (kind_of m false w))))

      -- without one
      without : (w c : Bool) → acts target shape m ≡ false → writes m ≡ w → closes m ≡ c → D [] false (m ∷ us) (sent_by false w c [] m ++ sent_after target shape (kept_by false w c [] m) us) (kept_after target shape (kept_by false w c [] m) us)
      without w true x f c = skips m us _ _ (none_of _ x) e_m (free_now c)
      without true false x w c = skips m us _ _ (none_of _ x) e_m (again [] false (empty c (kind_of m true w)))
      without false false x w c =
          skips m us _ _ (none_of _ x) e_m (subst (λ b. D [] b us (sent_after target shape [] us) (kept_after target shape [] us)) x (again [] (acts target shape m) (reading c (kind_of m false w))))

      by_acts : (a x w c : Bool) → (x ≡ false → a ≡ false) → acts target shape m ≡ x → writes m ≡ w → closes m ≡ c → D [] a (m ∷ us) (sent_by x w c [] m ++ sent_after target shape (kept_by x w c [] m) us) (kept_after target shape (kept_by x w c [] m) us)
      by_acts a true w c so e f g = with_one a w c e f g
      by_acts a false w c so e f g = subst (λ b. D [] b (m ∷ us) (sent_by false w c [] m ++ sent_after target shape (kept_by false w c [] m) us) (kept_after target shape (kept_by false w c [] m) us)) (sym (so refl)) (without w c e f g)

      -- behind a kept write
      behind : (a : Bool) (k : Marked) → IsKept target shape k → k.tag ≡ m.tag → is_of_reads m.transfer.kind ≡ false → (x w c : Bool) → acts target shape m ≡ x → writes m ≡ w → closes m ≡ c →
          D (k ∷ []) a (m ∷ us) (sent_by x w c (k ∷ []) m ++ sent_after target shape (kept_by x w c (k ∷ []) m) us) (kept_after target shape (kept_by x w c (k ∷ []) m) us)
      behind a k is tag kind x false c e f g = absurd (not_both (writes m) (ap not kind) f)
      behind a k is tag kind true true c e f g = releases a k m us _ _ is (with_one true true c e f g)
      behind a k is tag kind false true true e f g = ends_with a k m us _ _ is (record { none = none_of _ e; kind = kind; ends = e_m; tag = tag }) (has_more m e_m true g) (free_now g)
      behind a k is tag kind false true false e f g = passes a k m us _ _ is (record { none = none_of _ e; kind = kind; ends = e_m; tag = tag }) (has_more m e_m false g) (keeps_now a k g f is tag)

      by_stands : (q : List Marked) (a : Bool) → Stands p q a → (x : Bool) → acts target shape m ≡ x → (w : Bool) → writes m ≡ w → (c : Bool) → closes m ≡ c →
          D q a (m ∷ us) (sent_by x w c q m ++ sent_after target shape (kept_by x w c q m) us) (kept_after target shape (kept_by x w c q m) us)
      by_stands q a (free close) x e w f c g = by_acts false x w c (λ so. refl) e f g
      by_stands q a (reading open_p reads) x e w f c g = by_acts (acts target shape p) x w c (λ so. (when_open p m us h open_p).acts reads ∙ e ∙ so) e f g
      by_stands q a (empty open_p kind) x e w f c g = by_acts false x w c (λ so. refl) e f g
      by_stands q a (kept b k open_p kind is tag) x e w f c g =
          let on = when_open p m us h open_p in
          behind b k is (tag ∙ on.tag) (sym on.kind ∙ kind) x w c e f g

  pub dropped : (p : Marked) (q : List Marked) (a : Bool) (us : List Marked) → Stands p q a → AllEnd us → Joined (p ∷ us) → SoOn q a us
  dropped p q a [] (free close) ends h = ended false
  dropped p q a [] (reading open_p reads) ends h = ended (acts target shape p)
  dropped p q a [] (empty open_p kind) ends h = ended false
  dropped p q a [] (kept b k open_p kind is tag) ends h = waits b k is
  dropped p q a (m ∷ us) stands ends h = one_more p m us ends.0 h (λ q a there. dropped m q a us there ends.1 (tail_alike target port p (m ∷ us) h)) q a stands
