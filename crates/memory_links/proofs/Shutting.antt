-- What a side shows below whose reads are shut out while too many wait: the beats above, in another form and each alone.
use Rattle.std.proofs.Common.{ℕ, suc, ◌<◌, ◌≤◌, ◌≡◌, Bool, true, false, not, ◌&&◌, ◌||◌, List, ◌++◌, if◌then◌else◌, arith, refl, sym, ap, ap₂, ◌∙◌, length, drop, nat_lt, append-nil, length-drop, le_refl, lt-ltb, ltb-false}
use Rattle.std.proofs.lemmas.Bool.{and_parts, not-true, ltb-true}
use Rattle.histories.specs.History.{is_raised, only_if}
use Rattle.memory_runs.specs.Views.{Levels, levels_at}
use Rattle.memory_runs.specs.Commands.{shows, is_held}
use Rattle.memory_machines.specs.Link.{Port, AreLegalAt, takes, marked_at}
use Rattle.memory_machines.specs.Lines.{HandsOn}
use Rattle.memory_machines.specs.Machines.{raw_at, ShowsFitBeats}
use Rattle.memory_machines.specs.SideLaws.{fit_when_shown, legal_when_shown}
use Rattle.memory_links.specs.Selects.{silenced, takes_read}
use Rattle.memory_links.proofs.HandOn.{hands_on_shown}
use Rattle.memory_links.proofs.OneBeat.{raw_by, transfer_by, transfer_is, fit_alone}

-- a read is held back while `room` wait
abbrev pub is_shut_out : ℕ → Port → (ℕ → ℕ) → ℕ → Bool
is_shut_out room up waiting c = not (is_raised (up.commands.write c)) && not (nat_lt (waiting c) room)

pub record ShutsReads (room : ℕ) (up down : Port) (form : Levels → Levels) (waiting : ℕ → ℕ) : Type 0 where
  pub levels : (c : ℕ) → levels_at down.commands.signals c ≡ silenced (is_shut_out room up waiting c) (form (levels_at up.commands.signals c))
  pub reads : (l : Levels) → (form l).read ≡ l.read
  pub writes : (l : Levels) → (form l).write ≡ l.write
  pub single : (l : Levels) → (form l).count ≡ 1
  pub more : (c : ℕ) → down.commands.more c ≡ up.commands.more c
  pub tag : (c : ℕ) → down.commands.tag c ≡ up.commands.tag c
  pub waitrequest : (c : ℕ) → is_raised (up.commands.waitrequest c) ≡ (is_shut_out room up waiting c || is_raised (down.commands.waitrequest c))
  pub fewer : (c : ℕ) → takes_read up c ≡ false → waiting (suc c) ≤ waiting c

-- a queue to which nothing comes
pub no_longer : {A : Type 0} (v : ℕ) (q : List A) (b : Bool) (x : A) → b ≡ false → length (drop v q ++ only_if b x) ≤ length q
no_longer v q false x e = (let same = ap length (append-nil (drop v q)) in let size = length-drop v q in omega (arith, same, size))
no_longer v q true x e = cc

module _ {room : ℕ} {up down : Port} {form : Levels → Levels} {waiting : ℕ → ℕ} (run : ShutsReads room up down form waiting) where
  abbrev shut : ℕ → Bool
  shut c = is_shut_out room up waiting c

  reads_below : (c : ℕ) → down.commands.read c ≡ (if shut c then 0 else up.commands.read c)
  reads_below c = ap (λ (l : Levels). l.read) (run.levels c) ∙ ap (λ n. if shut c then 0 else n) (run.reads (levels_at up.commands.signals c))

  pub writes_below : (c : ℕ) → down.commands.write c ≡ up.commands.write c
  writes_below c = ap (λ (l : Levels). l.write) (run.levels c) ∙ run.writes (levels_at up.commands.signals c)

  count_below : (c : ℕ) → down.commands.count c ≡ 1
  count_below c = ap (λ (l : Levels). l.count) (run.levels c) ∙ run.single (levels_at up.commands.signals c)

  -- no write is shut out
  pub open_for_writes : (c : ℕ) → is_raised (up.commands.write c) ≡ true → shut c ≡ false
  open_for_writes c write = ap (λ w. not w && not (nat_lt (waiting c) room)) write

  twice : (b : Bool) → not b ≡ false → b ≡ true
  twice true e = refl
  twice false e = sym e

  parts_shut : (c : ℕ) → not (shut c) ≡ false → (not (is_raised (up.commands.write c)) ≡ true) × (not (nat_lt (waiting c) room) ≡ true)
  parts_shut c e = and_parts (not (is_raised (up.commands.write c))) (not (nat_lt (waiting c) room)) (twice (shut c) e)

  pub shut_reads : (c : ℕ) → not (shut c) ≡ false → is_raised (up.commands.write c) ≡ false
  shut_reads c e = not-true (is_raised (up.commands.write c)) (parts_shut c e).0

  pub shut_full : (c : ℕ) → not (shut c) ≡ false → room ≤ waiting c
  shut_full c e = ltb-false (waiting c) room (not-true (nat_lt (waiting c) room) (parts_shut c e).1)

  pub shows_same : (c : ℕ) → shows down.commands.signals c ≡ shows up.commands.signals c && not (shut c)
  shows_same c = ap₂ (λ r w. is_raised r || is_raised w) (reads_below c) (writes_below c) ∙ by_shut (shut c) (up.commands.read c) (is_raised (up.commands.write c)) (λ e. shut_reads c (ap not e))
    where
      by_shut : (x : Bool) (r : ℕ) (w : Bool) → (x ≡ true → w ≡ false) → (is_raised (if x then 0 else r) || w) ≡ (is_raised r || w) && not x
      by_shut true r w silent = rw (silent refl) (all_false (is_raised r || false))
        where
          all_false : (b : Bool) → false ≡ b && false
          all_false true = refl
          all_false false = refl
      by_shut false r w silent = all_true (is_raised r || w)
        where
          all_true : (b : Bool) → b ≡ b && true
          all_true true = refl
          all_true false = refl

  pub takes_same : (c : ℕ) → takes down c ≡ takes up c
  takes_same c =
      ap (λ s. s && not (is_raised (down.commands.waitrequest c))) (shows_same c) ∙ waits_by (shows up.commands.signals c) (shut c) (is_raised (down.commands.waitrequest c))
      ∙ ap (λ w. shows up.commands.signals c && not w) (sym (run.waitrequest c))
    where
      waits_by : (s x w : Bool) → (s && not x) && not w ≡ s && not (x || w)
      waits_by true true w = refl
      waits_by true false w = refl
      waits_by false x w = refl

  shown_parts : (c : ℕ) → shows down.commands.signals c ≡ true → (shows up.commands.signals c ≡ true) × (not (shut c) ≡ true)
  shown_parts c shown = and_parts (shows up.commands.signals c) (not (shut c)) (sym (shows_same c) ∙ shown)

  open_reads : (c : ℕ) → shows down.commands.signals c ≡ true → down.commands.read c ≡ up.commands.read c
  open_reads c shown = reads_below c ∙ ap (λ b. if b then 0 else up.commands.read c) (not-true (shut c) (shown_parts c shown).1)

  pub below_is : (c : ℕ) → (w : Bool) → is_raised (up.commands.write c) ≡ w → (marked_at down c).transfer ≡ transfer_by down.shape (levels_at down.commands.signals c) w
  below_is c w e = transfer_is down (suc c) (λ k h t. count_below k) c (omega arith) (count_below c) ∙ ap (transfer_by down.shape (levels_at down.commands.signals c)) (ap is_raised (writes_below c) ∙ e)

  pub shut_hands_on : (end : ℕ) → HandsOn up down end
  shut_hands_on end = hands_on_shown up down end (λ c h shown. (
    c,
    record { by_then = le_refl c; shown = (shown_parts c shown).0; tag = run.tag c; reads = ap is_raised (open_reads c shown); writes = ap is_raised (writes_below c) },
  ))

  -- single beats below, whatever waits
  pub shut_fits : (end : ℕ) → ShowsFitBeats up end → ShowsFitBeats down end
  shut_fits end fit = fit_alone down end (λ c h shown. count_below c)
      (λ c h shown. ap₂ (λ r w. not (is_raised r && is_raised w)) (open_reads c shown) (writes_below c) ∙ (fit c h (shown_parts c shown).0).one_kind)

  module _ (end : ℕ) (legal : AreLegalAt up end) where
    -- what is let through stays so while it stands
    stays_let : (c : ℕ) → shut c ≡ false → takes up c ≡ false → up.commands.write c ≡ up.commands.write (suc c) → shut (suc c) ≡ false
    stays_let c e none same = by_write (is_raised (up.commands.write c)) refl
      where
        by_write : (w : Bool) → is_raised (up.commands.write c) ≡ w → shut (suc c) ≡ false
        by_write true f = open_for_writes (suc c) (ap is_raised (sym same) ∙ f)
        by_write false f =
            let full : not (nat_lt (waiting c) room) ≡ false = ap (λ b. not b && not (nat_lt (waiting c) room)) (sym f) ∙ e in
            let room_now = ltb-true (waiting c) room (twice (nat_lt (waiting c) room) full) in
            let fewer = run.fewer c (ap (λ b. b && not (is_raised (up.commands.write c))) none) in
            let later = lt-ltb (waiting (suc c)) room (omega (arith, fewer, room_now)) in
            ap₂ (λ w b. not w && not b) (ap is_raised (sym same) ∙ f) later

    held_on : (c : ℕ) → suc c < end → is_held down.commands.signals (takes down) c ≡ true → raw_at down c ≡ raw_at down (suc c)
    held_on c h held =
        let parts = and_parts (shows down.commands.signals c) (not (takes down c)) held in
        let not_taken : takes up c ≡ false = sym (takes_same c) ∙ not-true (takes down c) parts.1 in
        let let_through = shown_parts c parts.0 in
        let stands : is_held up.commands.signals (takes up) c ≡ true = ap₂ (λ s t. s && not t) let_through.0 not_taken in
        let levels = legal.legal.held c h stands in
        let now = not-true (shut c) let_through.1 in
        let later = stays_let c now not_taken (ap (λ (l : Levels). l.write) levels) in
        raw_same (run.levels c ∙ ap₂ (λ b l. silenced b (form l)) (now ∙ sym later) levels ∙ sym (run.levels (suc c)))
        (run.more c ∙ legal.more c h stands ∙ sym (run.more (suc c))) (run.tag c ∙ legal.tag c h stands ∙ sym (run.tag (suc c)))
      where
        raw_same : {l l' : Levels} {m m' t t' : ℕ} → l ≡ l' → m ≡ m' → t ≡ t' → raw_by l m t ≡ raw_by l' m' t'
        raw_same {l' = l'} {m' = m'} {t = t} p q r = ap₂ (λ x y. raw_by x y t) p q ∙ ap (raw_by l' m') r

    pub legal_below : AreLegalAt down end
    legal_below = legal_when_shown down.shape down.commands down.answers end (shut_fits end (λ c h shown. fit_when_shown up end c legal h shown)) held_on
