-- A source that shows the beats of a script that fits it is legal.
use Rattle.std.proofs.Common.{◌≡◌, ◌⊎◌, inl, inr, ℕ, zero, suc, ◌+◌, ◌-◌, ◌^◌, ◌<◌, ◌≤◌, Bool, true, false, not, ◌&&◌, ◌||◌, ◌==◌, nat_lt, nat_le, List, [], ◌∷◌, ◌++◌, IsTrue, Option, Some, None, refl, sym, ap, ◌∙◌, subst, arith}
use Rattle.std.specs.Prelude.{replicate, is_some, unwrap_or, if◌then◌else◌}
use Rattle.std.proofs.lemmas.Bool.{cases_lt, or_cases, or_left, or_right, and_parts, and_from, both_ways, lt-ltb, le-ltb, ltb-true, leb-true, le-leb, eq-eqb, ne_eqb, cond-true}
use Rattle.std.proofs.Math.Nat.{le_of_suc-le, le_of_lt}
use Rattle.histories.specs.History.{one_if}
use Rattle.iface_roles.specs.declared.records.StreamPort.{StreamPort}
use Rattle.stream_runs.specs.View.{EndView, Beat, Pace, Side, beat_at, is_high, is_ready_cycle, is_transfer}
use Rattle.stream_runs.specs.Ends.{side_of}
use Rattle.stream_runs.specs.Source.{ShowsSame, is_open, channel_before, was_ready, beats_since_ready, is_allowed_late, may_show, IsHeld, IsWellFormed, IsLegalSource}
use Rattle.stream_machines.specs.Allowances.{since, since_next}
use Rattle.st_timing.specs.Ends.{declared}
use Rattle.scenario_tables.specs.declared.statements.SourceBeat.{SourceBeat}
use Rattle.scenario_tables.specs.declared.statements.SourceStatement.{SourceStatement}
use Rattle.scenario_tables.specs.declared.statements.SourceStatement.TheVariants as states
use Rattle.scenario_tables.specs.Statements.{open_behind, GoesOn, FitsBeat, FollowPackets, IsSourceScript}
use Rattle.stand_ins.specs.Step.{Step}
use Rattle.stand_ins.specs.Step.Step.{Quiet, Sends}
use Rattle.stand_ins.specs.StreamsSteps.{levels_of, steps_of, left_behind, next_beat, may_send, came_due, standing, left_before}
use Rattle.stand_ins.specs.Sources.{port_pace, no_beat, beat_shown, Shows, IsSourceStandIn}

-- ---- scripts as steps

-- each beat may be sent, where a packet is open or not and the beat before was on this channel
abbrev pub StepsFollow : Side → Bool → ℕ → List Step → Type 0
StepsFollow side opened channel [] = Unit {0}
StepsFollow side opened channel (Quiet ∷ later) = StepsFollow side opened channel later
StepsFollow side opened channel (Sends beat ∷ later) = IsWellFormed side opened channel beat × StepsFollow side (not (beat.last == 1)) beat.channel later

-- a packet is open on a channel, or none is
abbrev Matches : Option ℕ → Bool → ℕ → Type 0
Matches None opened channel = opened ≡ false
Matches (Some of) opened channel = (opened ≡ true) × (channel ≡ of)

one_is : (b : Bool) → (one_if b == 1) ≡ b
one_is true = refl
one_is false = refl

begins_where_none_is_open : (of : Option ℕ) (opened : Bool) (channel : ℕ) (beat : SourceBeat) → GoesOn of beat → Matches of opened channel → beat.first ≡ not opened
begins_where_none_is_open None opened channel beat goes same = goes ∙ sym (ap not same)
begins_where_none_is_open (Some c) opened channel beat goes same = goes.0 ∙ sym (ap not same.0)

keeps_the_channel : (of : Option ℕ) (opened : Bool) (channel : ℕ) (beat : SourceBeat) → GoesOn of beat → Matches of opened channel → opened ≡ true → beat.channel ≡ channel
keeps_the_channel None opened channel beat goes same inside = cc
keeps_the_channel (Some c) opened channel beat goes same inside = goes.1 ∙ sym same.1

channel_in_range : (bits most channel : ℕ) → channel < 2 ^ bits → channel ≤ most → channel ≤ (if nat_lt 0 bits then most else 0)
channel_in_range zero most channel fits low = omega arith
channel_in_range (suc bits) most channel fits low = let e : nat_lt 0 (suc bits) ≡ true = lt-ltb 0 (suc bits) (omega arith) in rw e low

no_error : (bits error : ℕ) → error < 2 ^ bits → bits ≡ 0 → error ≡ 0
no_error bits error fits e = let P : ℕ → Type 0 = λ n. error < 2 ^ n in let h : error < 2 ^ 0 = subst P e fits in omega arith

well_formed : (port : StreamPort) (of : Option ℕ) (opened : Bool) (channel : ℕ) (beat : SourceBeat) → FitsBeat port of beat → Matches of opened channel
    → IsWellFormed (side_of (declared port)) opened channel (levels_of beat)
well_formed port of opened channel beat fits same =
    record {
      begins = λ packets. one_is beat.first ∙ begins_where_none_is_open of opened channel beat (fits.packet packets) same;
      unmarked = λ plain. (one_is beat.first ∙ (fits.unmarked plain).first, one_is beat.last ∙ (fits.unmarked plain).last);
      holds_data = λ last. fits.ports.empty;
      in_range = channel_in_range port.channel_bits port.max_channel beat.channel fits.ports.channel_bits fits.ports.channel;
      one_channel = λ packets inside. keeps_the_channel of opened channel beat (fits.packet packets) same inside;
      quiet = no_error port.error_bits beat.error fits.ports.error;
    }

matches_behind : (last : Bool) (channel : ℕ) → Matches (if last then None else Some channel) (not (one_if last == 1)) channel
matches_behind true channel = refl
matches_behind false channel = (refl, refl)

quiet_steps_follow : (side : Side) (opened : Bool) (channel cycles : ℕ) (later : List Step) → StepsFollow side opened channel later
    → StepsFollow side opened channel (replicate cycles Quiet ++ later)
quiet_steps_follow side opened channel zero later follow = follow
quiet_steps_follow side opened channel (suc cycles) later follow = quiet_steps_follow side opened channel cycles later follow

steps_follow : (port : StreamPort) (of : Option ℕ) (opened : Bool) (channel : ℕ) (script : List SourceStatement) → Matches of opened channel → FollowPackets port of script
    → StepsFollow (side_of (declared port)) opened channel (steps_of script)
steps_follow port of opened channel [] same follow = tt
steps_follow port of opened channel (states.Beat beat ∷ later) same follow =
    (well_formed port of opened channel beat follow.0 same, steps_follow port (open_behind beat) (not (one_if beat.last == 1)) beat.channel later (matches_behind beat.last beat.channel) follow.1)
steps_follow port of opened channel (states.Gap cycles ∷ later) same follow =
    quiet_steps_follow (side_of (declared port)) opened channel cycles (steps_of later) (steps_follow port of opened channel later same follow.1)

-- ---- a cycle

abbrev is_sending : List Step → Bool
is_sending [] = false
is_sending (Quiet ∷ later) = false
is_sending (Sends beat ∷ later) = true

nothing_taken : (r : Bool) → (r && false) ≡ false
nothing_taken true = refl
nothing_taken false = refl

and_true : (b : Bool) → b ≡ (b && true)
and_true true = refl
and_true false = refl

-- a beat transfers where one stands next that may be sent, behind ready latency 0 if ready is high
transfers : (valid may free : Bool) (steps : List Step) → valid ≡ is_some (next_beat may steps) → (valid && free) ≡ (may && free && is_sending steps)
transfers valid may free [] shows = ap (λ v. v && free) shows ∙ sym (nothing_taken (may && free))
transfers valid may free (Quiet ∷ later) shows = ap (λ v. v && free) shows ∙ sym (nothing_taken (may && free))
transfers valid true free (Sends beat ∷ later) shows = ap (λ v. v && free) shows ∙ and_true free
transfers valid false free (Sends beat ∷ later) shows = ap (λ v. v && free) shows

shown_may : (may : Bool) (steps : List Step) → is_some (next_beat may steps) ≡ true → may ≡ true
shown_may may [] shown = cc
shown_may may (Quiet ∷ later) shown = cc
shown_may true (Sends beat ∷ later) shown = refl
shown_may false (Sends beat ∷ later) shown = cc

-- what isn't taken stands on, where a beat may be shown at any time
stands_on : (goes : Bool) (steps : List Step) → is_some (next_beat true steps) ≡ true → (goes && is_sending steps) ≡ false → next_beat true steps ≡ next_beat true (left_behind goes steps)
stands_on goes [] shown stays = cc
stands_on goes (Quiet ∷ later) shown stays = cc
stands_on true (Sends beat ∷ later) shown stays = cc
stands_on false (Sends beat ∷ later) shown stays = refl

formed : (side : Side) (opened : Bool) (channel : ℕ) (may : Bool) (steps : List Step) (shown : Beat) → StepsFollow side opened channel steps
    → is_some (next_beat may steps) ≡ true → shown ≡ unwrap_or (next_beat may steps) no_beat → IsWellFormed side opened channel shown
formed side opened channel may [] shown follow some is = absurd (let e : false ≡ true = some in cc)
formed side opened channel may (Quiet ∷ later) shown follow some is = absurd (let e : false ≡ true = some in cc)
formed side opened channel true (Sends beat ∷ later) shown follow some is = let P : Beat → Type 0 = IsWellFormed side opened channel in subst P (sym is) follow.0
formed side opened channel false (Sends beat ∷ later) shown follow some is = absurd (let e : false ≡ true = some in cc)

-- what is left follows on
follows_on : (side : Side) (opened : Bool) (channel : ℕ) (may free : Bool) (steps : List Step) (shown : Beat) (moves : Bool) → StepsFollow side opened channel steps
    → moves ≡ (may && free && is_sending steps) → shown ≡ unwrap_or (next_beat may steps) no_beat
    → StepsFollow side (if moves then not (shown.last == 1) else opened) (if moves then shown.channel else channel) (left_behind (may && free) steps)
follows_on side opened channel may free [] shown moves follow is same = tt
follows_on side opened channel may free (Quiet ∷ later) shown moves follow is same =
    let P : Bool → Type 0 = λ m. StepsFollow side (if m then not (shown.last == 1) else opened) (if m then shown.channel else channel) later in
    subst P (sym (is ∙ nothing_taken (may && free))) follow
follows_on side opened channel true true (Sends beat ∷ later) shown moves follow is same =
    let P : Bool → Type 0 = λ m. StepsFollow side (if m then not (shown.last == 1) else opened) (if m then shown.channel else channel) later in
    let Q : Beat → Type 0 = λ (b : Beat). StepsFollow side (not (b.last == 1)) b.channel later in
    subst P (sym is) (subst Q (sym same) follow.1)
follows_on side opened channel true false (Sends beat ∷ later) shown moves follow is same =
    let P : Bool → Type 0 = λ m. StepsFollow side (if m then not (shown.last == 1) else opened) (if m then shown.channel else channel) (Sends beat ∷ later) in
    subst P (sym is) follow
follows_on side opened channel false free (Sends beat ∷ later) shown moves follow is same =
    let P : Bool → Type 0 = λ m. StepsFollow side (if m then not (shown.last == 1) else opened) (if m then shown.channel else channel) (Sends beat ∷ later) in
    subst P (sym is) follow

-- ---- the allowance

was_high : (view : EndView) (c : ℕ) → is_high view.ready c ≡ true → was_ready view c ≡ true
was_high view zero high = high
was_high view (suc c) high = or_left _ _ high

abbrev CameEarlier : Pace → EndView → ℕ → Type 0
CameEarlier pace view c = (nat_le pace.latency c ≡ true) × (was_ready view (c - pace.latency) ≡ true)

at_once : (pace : Pace) (view : EndView) (c : ℕ) → is_ready_cycle pace view c ≡ true → CameEarlier pace view c
at_once pace view c due = let parts = and_parts (nat_le pace.latency c) (is_high view.ready (c - pace.latency)) due in (parts.0, was_high view (c - pace.latency) parts.1)

a_cycle_later : (pace : Pace) (view : EndView) (c : ℕ) → CameEarlier pace view c → CameEarlier pace view (suc c)
a_cycle_later pace view c came =
    let early = leb-true pace.latency c came.0 in
    let next : suc (c - pace.latency) ≡ suc c - pace.latency = omega arith in
    (le-leb pace.latency (suc c) (omega arith), subst (λ n. was_ready view n ≡ true) next (or_right _ _ came.1))

-- a ready cycle that came is one that ready made so long before
came_earlier : (pace : Pace) (view : EndView) (c : ℕ) → came_due pace view (suc c) ≡ true → CameEarlier pace view c
came_earlier pace view zero came = at_once pace view 0 came
came_earlier pace view (suc c) came = elim (or_cases (came_due pace view (suc c)) (is_ready_cycle pace view (suc c)) came) [
  | inl earlier ↦ a_cycle_later pace view c (came_earlier pace view c earlier)
  | inr due ↦ at_once pace view (suc c) due
]

-- ---- a run

-- as the view tells them
shown_valid : (view : EndView) (c : ℕ) (beat : Option Beat) → Shows view c beat → is_high view.valid c ≡ is_some beat
shown_valid view c beat shows = ap (λ n. n == 1) shows.valid ∙ one_is (is_some beat)

-- it goes where it may be shown, and behind ready latency 0 ready is high
abbrev may_at : StreamPort → List SourceStatement → EndView → ℕ → Bool
may_at port script view c = let pace = port_pace port in may_send pace (came_due pace view c) (is_ready_cycle pace view c) (standing pace (steps_of script) view c).sent

abbrev free_at : StreamPort → EndView → ℕ → Bool
free_at port view c = nat_lt 0 (port_pace port).latency || is_high view.ready c

moves_as : (port : StreamPort) (script : List SourceStatement) (view : EndView) (c : ℕ) → Shows view c (beat_shown port script view c)
    → is_transfer (port_pace port) view c ≡ (may_at port script view c && free_at port view c && is_sending (left_before (port_pace port) (steps_of script) view c))
moves_as port script view c shows =
    transfers (is_high view.valid c) (may_at port script view c) (free_at port view c) (left_before (port_pace port) (steps_of script) view c) (shown_valid view c (beat_shown port script view c) shows)

-- the steps that are left follow what has been sent
left_follows : (port : StreamPort) (script : List SourceStatement) (view : EndView) (end c : ℕ) → IsSourceScript port script → IsSourceStandIn port script view end → c ≤ end
    → StepsFollow (side_of (declared port)) (is_open (port_pace port) view c) (channel_before (port_pace port) view c) (left_before (port_pace port) (steps_of script) view c)
left_follows port script view end zero fits stands h = steps_follow port None false 0 script refl fits.follow
left_follows port script view end (suc c) fits stands h =
    let pace = port_pace port in
    follows_on (side_of (declared port)) (is_open pace view c) (channel_before pace view c) (may_at port script view c) (free_at port view c) (left_before pace (steps_of script) view c)
    (beat_at view c) (is_transfer pace view c) (left_follows port script view end c fits stands (le_of_suc-le h))
    (moves_as port script view c (stands c h)) (stands c h).signals

keeps_held : (port : StreamPort) (script : List SourceStatement) (view : EndView) (end c : ℕ) → IsSourceStandIn port script view end → c < end → IsHeld (port_pace port) view c
keeps_held port script view end zero stands h = tt
keeps_held port script view end (suc c) stands h = λ valid stays. by_latency valid stays (cases_lt 0 (port_pace port).latency)
  where
    by_latency : is_high view.valid c ≡ true → is_transfer (port_pace port) view c ≡ false → (0 < (port_pace port).latency) ⊎ ((port_pace port).latency ≤ 0) → ShowsSame view c (suc c)
    by_latency valid stays (inl late) = absurd (both_ways _ stays (and_from _ _ valid (or_left _ _ (lt-ltb 0 (port_pace port).latency late))))
    by_latency valid stays (inr direct) =
        let pace = port_pace port in
        let now = stands c (le_of_suc-le h) in
        let next = stands (suc c) h in
        let left = left_before pace (steps_of script) view c in
        let goes = may_at port script view c && free_at port view c in
        let any : (k : ℕ) → may_at port script view k ≡ true = λ k. or_left _ _ (eq-eqb pace.latency 0 (omega arith)) in
        let some : is_some (next_beat true left) ≡ true = ap (λ may. is_some (next_beat may left)) (sym (any c)) ∙ sym (shown_valid view c (beat_shown port script view c) now) ∙ valid in
        let same : beat_shown port script view c ≡ beat_shown port script view (suc c) =
        ap (λ may. next_beat may left) (any c) ∙ stands_on goes left some (sym (moves_as port script view c now) ∙ stays) ∙ ap (λ may. next_beat may (left_behind goes left)) (sym (any (suc c))) in
        record {
          valid = now.valid ∙ ap (λ (beat : Option Beat). one_if (is_some beat)) same ∙ sym next.valid;
          beat = now.signals ∙ ap (λ (beat : Option Beat). unwrap_or beat no_beat) same ∙ sym next.signals;
        }

-- ---- behind an allowance

sends_where : (goes : Bool) (steps : List Step) → is_some (next_beat goes steps) ≡ (goes && is_sending steps)
sends_where goes [] = sym (nothing_taken goes)
sends_where goes (Quiet ∷ later) = sym (nothing_taken goes)
sends_where true (Sends beat ∷ later) = refl
sends_where false (Sends beat ∷ later) = refl

counted : (more few : Bool) (sent : ℕ) → (more ≡ true → few ≡ true) → (if more && few then sent + 1 else sent) ≡ sent + (if more then 1 else 0)
counted true true sent only = refl
counted true false sent only = absurd (let e = only refl in cc)
counted false few sent only = omega arith

-- what may be sent leaves some of the allowance
leaves_some : (pace : Pace) (came due : Bool) (sent : ℕ) → 0 < pace.latency → pace.latency < pace.allowance → may_send pace came due sent ≡ true → ((came || due) ≡ true) × (nat_lt sent pace.allowance ≡ true)
leaves_some pace came due sent late larger may =
    let some : (pace.latency == 0) ≡ false = ne_eqb pace.latency 0 (λ e. omega arith) in
    let second = subst (λ b. (b || (if nat_lt pace.latency pace.allowance then (came || due) && nat_lt sent pace.allowance else due)) ≡ true) some may in
    and_parts (came || due) (nat_lt sent pace.allowance) (sym (cond-true (nat_lt pace.latency pace.allowance) _ _ (lt-ltb pace.latency pace.allowance larger)) ∙ second)

module _ (port : StreamPort) (script : List SourceStatement) (view : EndView) (end : ℕ) (stands : IsSourceStandIn port script view end) (late : 0 < (port_pace port).latency) (larger : (port_pace port).latency < (port_pace port).allowance) where
  abbrev pace : Pace
  pace = port_pace port

  -- what is counted is what was sent since the last ready
  sent_is : (c : ℕ) → c ≤ end → (standing pace (steps_of script) view c).sent ≡ since pace view c
  sent_is zero h = refl
  sent_is (suc c) h = by_ready (sent_is c (le_of_suc-le h)) (is_high view.ready c) (since_next pace view c)
    where
      sent : ℕ
      sent = (standing pace (steps_of script) view c).sent

      goes : Bool
      goes = may_at port script view c && free_at port view c

      left : List Step
      left = left_before pace (steps_of script) view c

      moves : is_some (next_beat goes left) ≡ is_transfer pace view c
      moves = sends_where goes left ∙ sym (moves_as port script view c (stands c h))

      few : is_some (next_beat goes left) ≡ true → nat_lt sent pace.allowance ≡ true
      few shown = (leaves_some pace (came_due pace view c) (is_ready_cycle pace view c) sent late larger (and_parts (may_at port script view c) (free_at port view c) (shown_may goes left shown)).0).1

      by_ready : sent ≡ since pace view c → (r : Bool) → beats_since_ready pace view c ≡ (if r then 0 else since pace view c + (if is_transfer pace view c then 1 else 0))
          → (if r then 0 else (if is_some (next_beat goes left) && nat_lt sent pace.allowance then sent + 1 else sent)) ≡ beats_since_ready pace view c
      by_ready earlier true next = sym next
      by_ready earlier false next =
          counted (is_some (next_beat goes left)) (nat_lt sent pace.allowance) sent few ∙ ap (λ t. sent + (if t then 1 else 0)) moves ∙ ap (λ n. n + (if is_transfer pace view c then 1 else 0)) earlier ∙ sym next

  allowed_late : (c : ℕ) → c < end → may_at port script view c ≡ true → is_allowed_late pace view c ≡ true
  allowed_late c h may =
      let parts = leaves_some pace (came_due pace view c) (is_ready_cycle pace view c) (standing pace (steps_of script) view c).sent late larger may in
      let came = came_earlier pace view c parts.0 in
      let few = ltb-true _ _ parts.1 in
      let same = sent_is c (le_of_lt h) in
      and_from _ _ (and_from _ _ came.0 came.1) (le-leb (beats_since_ready pace view c) pace.allowance (by_ready (is_high view.ready c) (is_transfer pace view c) (since_next pace view c) (omega (arith, few, same))))
    where
      by_ready : (r : Bool) → (t : Bool) → beats_since_ready pace view c ≡ (if r then 0 else since pace view c + (if t then 1 else 0)) → since pace view c < pace.allowance → beats_since_ready pace view c ≤ pace.allowance
      by_ready true t next few = omega (arith, next)
      by_ready false true next few = omega (arith, next, few)
      by_ready false false next few = omega (arith, next, few)

-- what may be sent may be shown
sent_by_the_rule : (port : StreamPort) (script : List SourceStatement) (view : EndView) (end c : ℕ) → IsSourceStandIn port script view end → c < end → may_at port script view c ≡ true → may_show (port_pace port) view c ≡ true
sent_by_the_rule port script view end c stands h may = by_pace (cases_lt 0 (port_pace port).latency) (cases_lt (port_pace port).latency (port_pace port).allowance)
  where
    by_pace : (0 < (port_pace port).latency) ⊎ ((port_pace port).latency ≤ 0) → ((port_pace port).latency < (port_pace port).allowance) ⊎ ((port_pace port).allowance ≤ (port_pace port).latency) → may_show (port_pace port) view c ≡ true
    by_pace (inr direct) any = or_left _ _ (eq-eqb (port_pace port).latency 0 (omega arith))
    by_pace (inl late) (inl larger) =
        or_right _ _ (cond-true (nat_lt (port_pace port).latency (port_pace port).allowance) _ _ (lt-ltb (port_pace port).latency (port_pace port).allowance larger) ∙ allowed_late port script view end stands late larger c h may)
    by_pace (inl late) (inr strict) =
        let pace = port_pace port in
        let equal : nat_lt pace.latency pace.allowance ≡ false = le-ltb pace.latency pace.allowance strict in
        ap (λ more. (pace.latency == 0) || (if more then is_allowed_late pace view c else is_ready_cycle pace view c)) equal
        ∙ ap (λ more. (pace.latency == 0) || (if more then (came_due pace view c || is_ready_cycle pace view c) && nat_lt (standing pace (steps_of script) view c).sent pace.allowance else is_ready_cycle pace view c)) (sym equal)
        ∙ may

pub stand_ins_are_legal : (port : StreamPort) (script : List SourceStatement) (view : EndView) (end : ℕ) → IsSourceScript port script
    → IsSourceStandIn port script view end → IsLegalSource (side_of (declared port)) view end
stand_ins_are_legal port script view end fits stands c h =
    let pace = port_pace port in
    let left = left_before pace (steps_of script) view c in
    let may = may_at port script view c in
    let shows = stands c h in
    let some : IsTrue (is_high view.valid c) → is_some (next_beat may left) ≡ true = λ valid. sym (shown_valid view c (beat_shown port script view c) shows) ∙ valid in
    record {
      paced = record {
        allowed = λ valid. sent_by_the_rule port script view end c stands h (shown_may may left (some valid));
        held = keeps_held port script view end c stands h;
      };
      formed = λ valid. formed (side_of (declared port)) (is_open pace view c) (channel_before pace view c) may left (beat_at view c)
          (left_follows port script view end c fits stands (le_of_lt h)) (some valid) shows.signals;
    }
