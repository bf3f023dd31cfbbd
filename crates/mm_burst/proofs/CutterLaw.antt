-- The nets are the machine of the cutter of bursts.
use Rattle.std.proofs.Common.{◌≡◌, ℕ, zero, suc, ◌+◌, ◌-◌, ◌*◌, ◌%◌, ◌^◌, ◌<◌, ◌≤◌, max, Bool, true, false, not, ◌&&◌, ◌||◌, if◌then◌else◌, nat_lt, nat_eq, [], ◌∷◌, refl, sym, subst, ap, ap₂, ◌∙◌, arith, mul-le-mul_right, inl, inr}
use Rattle.std.specs.Prelude.{IsTrue}
use Rattle.std.proofs.Math.Nat.{pow-suc, one-le-pow}
use Rattle.std.proofs.Math.Pow.{pow_mono}
use Rattle.std.proofs.lemmas.Nat.{pow-add}
use Rattle.std.proofs.lemmas.Bool.{ltb-true}
use Rattle.histories.specs.History.{is_raised}
use Rattle.netlist.specs.Nets.{NetValue}
use Rattle.netlist.specs.Netlists.{Netlist}
use Rattle.netlist.specs.Runs.{Cycle, Run, cycle_of, IsEndlessRun, IsValuation}
use Rattle.net_parts.specs.Groups.{InGroup}
use Rattle.net_parts.specs.Laws.{net_fits}
use Rattle.memory_runs.specs.Views.{Shape}
use Rattle.memory_runs.specs.Commands.{Burst, byte_address, burst_before}
use Rattle.memory_machines.specs.Link.{Port, takes}
use Rattle.memory_machines.specs.Machines.{Raw, IsFitBeat, ShowsFitBeats}
use Rattle.memory_links.specs.Links.{LinkForm, IsLink}
use Rattle.memory_links.specs.Selects.{takes_read}
use Rattle.memory_links.specs.Cutters.{Rest, CutterState, IsPlaceIn, RunsAsCutter, behind_burst, whole_read, read_burst_of, first_burst, Reach, cut_form}
use Rattle.command_nets.specs.declared.nets.CommandNets.{CommandNets}
use Rattle.command_nets.specs.declared.nets.AnswerNets.{AnswerNets}
use Rattle.command_nets.specs.Nets.{raw_in, port_in, ShowSame}
use Rattle.command_nets.specs.Groups.{is_shown, nothing_shown}
use Rattle.link_core.specs.Form.{Form}
use Rattle.mm_burst.specs.declared.cutter.Cutter.{Cutter}
use Rattle.mm_burst.specs.declared.cutter.CutterKept.{CutterKept}
use Rattle.mm_burst.specs.Pieces.{Held, Piece, registers_of, held_in, held_of, piece_in, piece_from, piece_now, shown_piece, behind_piece}
use Rattle.mm_burst.specs.CutterNets.{IsCutterForm, CutterRuns, CutterCommand, CutterAnswer, address_bits, reach_of, longest_of}
use Rattle.mm_burst.proofs.Levels.{exponent_is}
use Rattle.mm_burst.proofs.Steps.{IsBelow, Matches, place_of, accepted_where, shown_where, piece_top, is_below, held_top, rest_step, place_step, beat_is}

-- ---- numbers and bits

bytes_are : (shape : Shape) (bytes address : ℕ) → shape.word_bytes ≡ bytes → shape.unit_bytes ≡ 1 → byte_address shape address ≡ address - address % bytes
bytes_are shape bytes address e u =
    let one : address * 1 ≡ address = omega arith in
    let whole : address * shape.unit_bytes ≡ address = ap (λ n. address * n) u ∙ one in
    ap₂ (λ n b. n - n % b) whole e

-- the last byte of each burst lies below the limit
below_limit : (w n lanes bytes wide : ℕ) → bytes ≡ 2 ^ lanes → wide ≡ address_bits w n lanes → (2 ^ w - 1) + 2 ^ n * bytes < 2 ^ wide
below_limit w n lanes bytes wide e f =
    let most = max w (n + lanes) in
    let first : 2 ^ w ≤ 2 ^ most = pow_mono (omega arith) in
    let second : 2 ^ (n + lanes) ≤ 2 ^ most = pow_mono (omega arith) in
    let parts : 2 ^ n * bytes ≡ 2 ^ (n + lanes) = ap (λ b. 2 ^ n * b) e ∙ sym (pow-add 2 n lanes) in
    let one_more : most + 1 ≡ suc most = omega arith in
    let twice : 2 ^ wide ≡ 2 ^ most * 2 = ap (λ k. 2 ^ k) (f ∙ one_more) ∙ pow-suc 2 most in
    let some : 1 ≤ 2 ^ w = one-le-pow w 2 (omega arith) in
    omega (arith, first, second, parts, twice, some)

-- what fits so many bits fits more
fits_wider : (few bits value : ℕ) → few ≤ bits → value < 2 ^ few → value < 2 ^ bits
fits_wider few bits value more fits = let wide : 2 ^ few ≤ 2 ^ bits = pow_mono more in omega (arith, wide, fits)

and_right : (a b : Bool) → (a && b) ≡ true → b ≡ true
and_right true b e = e
and_right false b e = absurd (cc)

or_where : (a b : Bool) → (if a then true else b) ≡ (a || b)
or_where true b = refl
or_where false b = refl

shown_alone : (sends shown rest : Bool) → sends ≡ false → ((sends || shown) && rest) ≡ true → shown ≡ true
shown_alone true shown rest s e = absurd (cc)
shown_alone false true rest s e = refl
shown_alone false false rest s e = absurd (cc)

none_some : (n : ℕ) → n ≡ 0 → nat_lt 0 n ≡ true → ⊥
none_some n e h = let some = ltb-true 0 n h in omega (arith, e, some)

-- ---- the machine

module _ (s : Cutter) (from to : CommandNets) (kept : CutterKept) (wait up : NetValue) (answer back : AnswerNets) (netlist : Netlist) (f : CutterCommand s from to kept netlist) (b : CutterAnswer s kept wait answer up back netlist) (run : Run) (endless : IsEndlessRun netlist run)
    (above below : Shape) (same : above.word_bytes ≡ s.word_bytes) (units : above.unit_bytes ≡ 1) where
  valued : (c : ℕ) → IsValuation netlist (cycle_of run c)
  valued c = (endless (c + 1)).valuations c (omega arith)

  next_of : (c : ℕ) → c + 1 ≡ suc c
  next_of c = omega arith

  abbrev up_port : Port
  up_port = port_in above run from up back

  abbrev down_port : Port
  down_port = port_in below run to wait answer

  abbrev longest : ℕ
  longest = longest_of s

  abbrev reach : Reach
  reach = reach_of s

  abbrev limit : ℕ
  limit = 2 ^ kept.registers.next.width

  abbrev top : ℕ
  top = (2 ^ from.address.width - 1) + 2 ^ s.count_bits * above.word_bytes

  abbrev raw : ℕ → Raw
  raw c = raw_in (cycle_of run c) from

  abbrev held : ℕ → Held
  held c = held_in (cycle_of run c) kept.registers

  abbrev start : ℕ → ℕ
  start c = byte_address above (raw c).levels.address

  abbrev sends : ℕ → Bool
  sends c = is_raised (held c).reads && nat_lt 0 (held c).left

  abbrev writes : ℕ → Bool
  writes c = is_raised (raw c).levels.write

  abbrev shown : ℕ → Bool
  shown c = is_shown (raw c)

  abbrev waits : ℕ → Bool
  waits c = is_raised (run.net c wait.number)

  abbrev taken : ℕ → Bool
  taken c = (sends c || shown c) && not (waits c)

  abbrev piece : ℕ → Piece
  piece c = piece_from reach (start c) (raw c) (held c)

  piece_is : (c : ℕ) → piece_in (cycle_of run c) kept.piece ≡ piece c
  piece_is c = f.piece (cycle_of run c) (valued c) ∙ ap (λ n. piece_from reach n (raw c) (held c)) (sym (bytes_are above s.word_bytes (raw c).levels.address same units))

  shows_piece : (c : ℕ) → raw_in (cycle_of run c) to ≡ shown_piece longest (raw c).levels.word (piece c)
  shows_piece c = f.shows (cycle_of run c) (valued c) ∙ ap (λ (p : Piece). shown_piece longest (raw c).levels.word p) (piece_is c)

  below_shown : (c : ℕ) → is_shown (raw_in (cycle_of run c) to) ≡ (if sends c then true else shown c)
  below_shown c = ap is_shown (shows_piece c) ∙ shown_where (sends c) (is_raised (raw c).levels.read) (writes c)

  down_taken : (c : ℕ) → takes down_port c ≡ taken c
  down_taken c = ap (λ t. t && not (waits c)) (below_shown c ∙ or_where (sends c) (shown c))

  up_taken : (c : ℕ) → takes up_port c ≡ (not (sends c) && taken c)
  up_taken c =
      ap (λ t. shown c && not t) (b.waits (cycle_of run c) (valued c) ∙ ap (λ (p : Piece). p.sends || waits c) (piece_is c))
      ∙ accepted_where (sends c) (shown c) (waits c)

  moved : (c : ℕ) → held (suc c) ≡ behind_piece above.word_bytes limit (held c) (piece c) (taken c)
  moved c =
      sym (ap (λ k. held_in (cycle_of run k) kept.registers) (next_of c))
      ∙ ap held_of (b.takes run (c + 2) (endless (c + 2)) c (omega arith))
      ∙ b.next_is (cycle_of run c) (valued c)
      ∙ ap (λ (p : Piece). behind_piece s.word_bytes limit (held c) p (p.shows && not (waits c))) (piece_is c)
      ∙ ap (λ n. behind_piece n limit (held c) (piece c) (taken c)) (sym same)

  begins : held 0 ≡ held_of (0 ∷ 0 ∷ 0 ∷ 0 ∷ 0 ∷ 0 ∷ [])
  begins = ap held_of (f.starts run 1 (endless 1) (omega arith))

  -- ---- no address wraps

  few : top < limit
  few =
      let w = f.is.word in
      let lanes = exponent_is s.word_bytes w.exponent w.small w.power in
      below_limit from.address.width s.count_bits w.exponent above.word_bytes kept.registers.next.width (same ∙ w.power) (f.address ∙ ap (address_bits from.address.width s.count_bits) lanes)

  start_top : (c : ℕ) → start c + (raw c).levels.count * above.word_bytes ≤ top
  start_top c =
      let is = bytes_are above s.word_bytes (raw c).levels.address same units in
      let address = net_fits netlist from.address f.from_nets.address (cycle_of run c) (valued c) in
      let count : (raw c).levels.count < 2 ^ s.count_bits = fits_wider from.count.width s.count_bits (raw c).levels.count f.count (net_fits netlist from.count f.from_nets.count (cycle_of run c) (valued c)) in
      let words : (raw c).levels.count * above.word_bytes ≤ 2 ^ s.count_bits * above.word_bytes = mul-le-mul_right above.word_bytes (omega (arith, count)) in
      omega (arith, is, address, words)

  within_top : (c : ℕ) → (nat_lt 0 (held c).left ≡ true → (held c).next + (held c).left * above.word_bytes ≤ top) → (piece c).address + (piece c).left * above.word_bytes ≤ top
  within_top c old = piece_top reach (start c) above.word_bytes top (raw c) (held c) (sends c) (nat_lt 0 (held c).left) (writes c) (shown c) (and_right (is_raised (held c).reads) (nat_lt 0 (held c).left)) old (start_top c)

  held_within : (c : ℕ) → nat_lt 0 (held c).left ≡ true → (held c).next + (held c).left * above.word_bytes ≤ top
  held_within zero some = absurd (none_some (held 0).left (ap (λ (h : Held). h.left) begins) some)
  held_within (suc c) some =
      subst (λ (h : Held). nat_lt 0 h.left ≡ true → h.next + h.left * above.word_bytes ≤ top) (sym (moved c))
      (held_top above.word_bytes limit top (held c) (piece c) (taken c) refl (within_top c (held_within c)) few (held_within c)) some

  fits : (c : ℕ) → IsBelow above.word_bytes limit (piece c)
  fits c = is_below above.word_bytes limit top (piece c) (within_top c (held_within c)) few

  -- ---- the read that the cutter sends by itself

  abbrev rest_by : Rest → Bool → Bool → Bool → Raw → Rest
  rest_by rest sending takes reads raw =
      if sending then (if takes then behind_burst reach above.word_bytes rest else rest)
      else if reads then behind_burst reach above.word_bytes (whole_read above raw) else rest

  pub rest_at : ℕ → Rest
  rest_at zero = record { left = 0; address = 0; command = nothing_shown }
  rest_at (suc c) = rest_by (rest_at c) (nat_lt 0 (rest_at c).left) (takes down_port c) (takes_read up_port c) (raw c)

  matches : (c : ℕ) → Matches (rest_at c) (held c)
  unfolding rest_at
  matches zero = subst (Matches (rest_at 0)) (sym begins) (record { sends = refl; kept = λ e. absurd (cc) })
  matches (suc c) =
      let m = matches c in
      let rest : rest_at (suc c) ≡ rest_by (rest_at c) (sends c) (taken c) ((not (sends c) && taken c) && not (writes c)) (raw c) =
      ap₂ (λ sending takes. rest_by (rest_at c) sending takes (takes_read up_port c) (raw c)) m.sends (down_taken c)
      ∙ ap (λ t. rest_by (rest_at c) (sends c) (taken c) (t && not (writes c)) (raw c)) (up_taken c) in
      subst (λ (r : Rest). Matches r (held (suc c))) (sym rest)
      (subst (Matches (rest_by (rest_at c) (sends c) (taken c) ((not (sends c) && taken c) && not (writes c)) (raw c))) (sym (moved c))
      (rest_step reach limit above (raw c) (held c) (rest_at c) (sends c) (nat_lt 0 (held c).left) (writes c) (shown c) (taken c) m.sends refl (λ e. m.kept (m.sends ∙ e)) (fits c)))

  -- ---- the write burst under way

  abbrev burst : ℕ → Burst
  burst c = burst_before above up_port.commands.signals (takes up_port) c

  place_at : (c : ℕ) → ShowsFitBeats up_port c → IsPlaceIn above.word_bytes (burst c) (place_of (held c))
  place_at zero fit = subst (λ (h : Held). IsPlaceIn above.word_bytes (record { left = 0; done = 0; first = 0 }) (place_of h)) (sym begins) (record { left = refl; address = λ e. absurd (omega (arith, e)) })
  place_at (suc c) fit =
      subst (λ (h : Held). IsPlaceIn above.word_bytes (burst (suc c)) (place_of h)) (sym (moved c))
      (subst (λ t. IsPlaceIn above.word_bytes (burst_past t) (place_of (behind_piece above.word_bytes limit (held c) (piece c) (taken c)))) (sym (up_taken c))
      (place_step reach limit above (raw c) (held c) (burst c) (sends c) (writes c) (taken c) refl refl (place_at c (λ k less. fit k (omega (arith, less)))) fitting (fits c)))
    where
      burst_past : Bool → Burst
      burst_past t = if t && writes c then (if nat_eq (burst c).left 0 then record { left = (raw c).levels.count - 1; done = 1; first = start c } else record { left = (burst c).left - 1; done = (burst c).done + 1; first = (burst c).first }) else burst c

      fitting : sends c ≡ false → taken c ≡ true → IsFitBeat above (burst c) (raw c) × IsTrue (is_raised (raw c).levels.read || writes c)
      fitting e t = let stands = shown_alone (sends c) (shown c) (not (waits c)) e t in (fit c (omega arith) stands, stands)

  abbrev state : CutterState
  state = record { place = λ c. place_of (held c); rest = rest_at }

  pub is_cutter_run : RunsAsCutter reach longest up_port down_port state
  unfolding rest_at
  is_cutter_run = record {
    shown = λ c. below_shown c ∙ ap (λ t. if t then true else shown c) (sym (matches c).sends);
    beat = λ c stands. (
        let m = matches c in
        shows_piece c
        ∙ beat_is reach longest above (raw c) (held c) (rest_at c) (sends c) (nat_lt 0 (held c).left) (writes c) (shown c) refl refl (λ e. m.kept (m.sends ∙ e)) (sym (or_where (sends c) (shown c)) ∙ sym (below_shown c) ∙ stands)
        ∙ ap (λ t. if t then read_burst_of reach (rest_at c) else first_burst reach longest above (place_of (held c)) (raw c)) (sym m.sends));
    accepts = λ c. up_taken c ∙ ap₂ (λ t k. not t && k) (sym (matches c).sends) (sym (down_taken c));
    place = place_at;
    rest_begins = refl;
    rest_next = λ c. refl;
    valid = λ c. ap (λ (a : AnswerNets). run.net c a.valid.number) b.back_is;
    word = λ c. ap (λ (a : AnswerNets). run.net c a.word.number) b.back_is;
    code = λ c. ap (λ (a : AnswerNets). run.net c a.code.number) b.back_is;
  }

pub cutter_runs : (s : Cutter) (form : Form) (from to : CommandNets) (kept : CutterKept) (wait up : NetValue) (answer back : AnswerNets) (netlist : Netlist) (run : Run) → IsCutterForm s form → CutterCommand s from to kept netlist → CutterAnswer s kept wait answer up back netlist → IsEndlessRun netlist run →
    CutterRuns s form.link.target (port_in form.up run from up back) (port_in form.down run to wait answer)
cutter_runs s form from to kept wait up answer back netlist run p f b endless = record {
  plan = p.plan;
  state = state s from to kept wait up answer back netlist f b run endless form.up form.down p.words p.bytes;
  run = is_cutter_run s from to kept wait up answer back netlist f b run endless form.up form.down p.words p.bytes;
}

pub cutter_is : (form : Form) (up down : Port) (end : ℕ) → form.link ≡ cut_form form.link.target → IsLink (cut_form form.link.target) up down end → IsLink form.link up down end
cutter_is form up down end e h = subst (λ (l : LinkForm). IsLink l up down end) (sym e) h

-- by the beat above and the registers alone
pub cutter_ignores : (s : Cutter) (from to : CommandNets) (kept : CutterKept) (netlist : Netlist) (one other : Cycle) → CutterCommand s from to kept netlist → IsValuation netlist one → IsValuation netlist other →
    ((n : ℕ) → InGroup (registers_of kept.registers) n → one.net n ≡ other.net n) → ShowSame from one other → ShowSame to one other
cutter_ignores s from to kept netlist one other f v w registers same =
    shows one v ∙ ap₂ shown_by same held_same ∙ sym (shows other w)
  where
    shown_by : Raw → Held → Raw
    shown_by raw held = shown_piece (longest_of s) raw.levels.word (piece_now (reach_of s) s.word_bytes raw held)

    shows : (cycle : Cycle) → IsValuation netlist cycle → raw_in cycle to ≡ shown_by (raw_in cycle from) (held_in cycle kept.registers)
    shows cycle v = f.shows cycle v ∙ ap (λ (p : Piece). shown_piece (longest_of s) (cycle.net from.word.number) p) (f.piece cycle v)

    held_same : held_in one kept.registers ≡ held_in other kept.registers
    held_same =
        let r = kept.registers in
        let e0 = registers r.left.number (inl refl) in
        let e1 = registers r.next.number (inr (inl refl)) in
        let e2 = registers r.reads.number (inr (inr (inl refl))) in
        let e3 = registers r.enables.number (inr (inr (inr (inl refl)))) in
        let e4 = registers r.more.number (inr (inr (inr (inr (inl refl))))) in
        let e5 = registers r.tag.number (inr (inr (inr (inr (inr (inl refl)))))) in
        rw (e0, e1, e2, e3, e4, e5) refl
