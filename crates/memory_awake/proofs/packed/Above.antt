-- From the host to the arbiter: transfers go as they are, to their place, and each is touched there as the host's beats are at the agent.
use Rattle.std.proofs.Common.{ℕ, zero, suc, ◌<◌, ◌≤◌, ◌≡◌, ◌+◌, ◌*◌, ◌%◌, ◌-◌, ◌/◌, Bool, true, false, ◌&&◌, List, [], ◌∷◌, ◌++◌, if◌then◌else◌, arith, refl, sym, ap, ap₂, subst, ◌∙◌, length, map, filter, flat_map, nat_eq, Option, Some, None}
use Rattle.std.proofs.lemmas.Bool.{and_parts, eq-eqb, eqb-true}
use Rattle.std.proofs.lemmas.List.{length-map, map-append}
use Rattle.std.proofs.lemmas.List.Elements.{filter-append}
use Rattle.std.proofs.lemmas.Grind.{flat_map-append}
use Rattle.std.proofs.Math.Nat.{add-mul-mod_self_right}
use Rattle.histories.specs.History.{is_raised, numbers, only_if, IsPrefix}
use Rattle.histories.specs.Laws.{prefix_map, prefix_trans}
use Rattle.memory_runs.specs.Views.{System, Shape, Levels, levels_at}
use Rattle.memory_runs.specs.Operations.{Beat, filled_lanes}
use Rattle.memory_runs.specs.Commands.{Transfer, Burst, burst_before, is_of_reads, read_beat, read_transfer, write_transfer, shows, byte_address, transfer_of}
use Rattle.memory_runs.specs.Order.{place_of, is_agent, for_agent, beat_operations as placed_operations}
use Rattle.memory_runs.specs.Packed.{Touch, touch_of, goes_on}
use Rattle.memory_machines.specs.Link.{Target, Port, Marked, takes, marked_at, taken_at, beat_operations}
use Rattle.memory_machines.specs.Lines.{TaggedPort, Sent, sent_of, sent_by, target_of, with_tag}
use Rattle.memory_links.specs.Packs.{touch_in, touches_from, touches_of, system_touches, transfer_touches}
use Rattle.memory_parts.specs.Route.{IsRoutePlan}
use Rattle.memory_parts.specs.Steps.{IsArbiterPart, IsRoutePart}

abbrev pub transfer_in : Marked → Transfer
transfer_in m = m.transfer

-- ---- the arbiter

pub arbiter_takes : (system : System) (agent host end : ℕ) (up : ℕ → Port) (down : TaggedPort) → IsArbiterPart system agent up down end → host < system.hosts →
    (c : ℕ) → c ≤ end → with_tag host (taken_at down.port c) ≡ taken_at (up host) c
arbiter_takes system agent host end up down part low zero h = refl
arbiter_takes system agent host end up down part low (suc c) h =
    filter-append (λ (m : Marked). nat_eq m.tag host) (taken_at down.port c) (only_if (takes down.port c) (marked_at down.port c))
    ∙ ap₂ (λ x y. x ++ y) (arbiter_takes system agent host end up down part low c (omega (arith, h))) (by_tag (nat_eq (down.commands.tag c) host) refl (takes down.port c) refl)
  where
    by_tag : (e : Bool) → nat_eq (down.commands.tag c) host ≡ e → (t : Bool) → takes down.port c ≡ t →
        filter (λ (m : Marked). nat_eq m.tag host) (only_if (takes down.port c) (marked_at down.port c)) ≡ only_if (takes (up host) c) (marked_at (up host) c)
    by_tag true e true t =
        let same = eqb-true (down.commands.tag c) host e in
        let up_takes = part.taken host c low (omega (arith, h)) same ∙ t in
        rw (t, up_takes) (ap (λ b. if b then marked_at down.port c ∷ [] else []) e ∙ ap (λ m. m ∷ []) (sym (part.same host c low (omega (arith, h)) same t)))
    by_tag true e false t =
        let same = eqb-true (down.commands.tag c) host e in
        let up_takes = part.taken host c low (omega (arith, h)) same ∙ t in
        rw (t, up_takes) refl
    by_tag false e b t = ap (λ b. filter (λ (m : Marked). nat_eq m.tag host) (only_if b (marked_at down.port c))) t ∙ dropped b ∙ sym (ap (λ b. only_if b (marked_at (up host) c)) (still (takes (up host) c) refl))
      where
        dropped : (b : Bool) → filter (λ (m : Marked). nat_eq m.tag host) (only_if b (marked_at down.port c)) ≡ []
        dropped true = ap (λ b. if b then marked_at down.port c ∷ [] else []) e
        dropped false = refl

        still : (b : Bool) → takes (up host) c ≡ b → b ≡ false
        still false f = refl
        still true f = let tag = part.tagged host c low (omega (arith, h)) f in sym (ap (λ n. nat_eq n host) tag ∙ eq-eqb host host refl) ∙ e

-- ---- touches: a base is a whole number of spans

map_same : {A B : Type 0} (f g : A → B) → ((x : A) → f x ≡ g x) → (xs : List A) → map f xs ≡ map g xs
map_same f g same [] = refl
map_same f g same (x ∷ xs) = ap₂ (λ y ys. y ∷ ys) (same x) (map_same f g same xs)

same_offset : (address base span k : ℕ) → base ≡ k * span → base ≤ address → (address - base) % span ≡ address % span
same_offset address base span k e low =
    let sum : address ≡ (address - base) + k * span = omega (arith, e, low) in
    sym (ap (λ n. n % span) sum ∙ add-mul-mod_self_right (address - base) k span)

module _ (system : System) (host agent spans : ℕ) (shape : Shape) (words : shape.word_bytes ≡ (system.host host).word_bytes) (whole : system.base host agent ≡ spans * (system.agent agent).span) where
  abbrev target : Target
  target = target_of system agent

  abbrev base : ℕ
  base = system.base host agent

  abbrev placed_size : Beat → ℕ
  placed_size b = length (placed_operations system host agent b)

  abbrev size : Beat → ℕ
  size b = length (beat_operations target shape b)

  same_size : (b : Beat) → placed_size b ≡ size b
  same_size b =
      length-map (filled_lanes (system.host host).shape target.shape b.enables) _
      ∙ ap (λ n. length (filled_lanes (record shape { word_bytes = n }) target.shape b.enables)) (sym words)
      ∙ sym (length-map (filled_lanes shape target.shape b.enables) _)

  same_touch : (b : Beat) → base ≤ b.address → touch_of system host agent b ≡ touch_in target b
  same_touch b low = ap (λ o. record { word = o / target.shape.word_bytes; offset = o }) (same_offset b.address base target.span spans whole low)

  read_touches : (levels : Levels) → base ≤ byte_address shape levels.address → (last : Option Touch) (sum : ℕ) (ks : List ℕ) →
      system_touches system host agent last sum (map (read_beat shape levels) ks) ≡ touches_from target shape last sum (map (read_beat shape levels) ks)
  read_touches levels low last sum [] = refl
  read_touches levels low last sum (k ∷ ks) =
      ap₂ (λ n t. if nat_eq n 0 then sum ∷ system_touches system host agent None 0 (map (read_beat shape levels) ks)
      else if goes_on last t then system_touches system host agent (Some t) (sum + n) (map (read_beat shape levels) ks)
      else sum ∷ system_touches system host agent (Some t) n (map (read_beat shape levels) ks))
      (same_size (read_beat shape levels k)) (same_touch (read_beat shape levels k) (omega (arith, low)))
      ∙ by_own (nat_eq (size (read_beat shape levels k)) 0) (goes_on last (touch_in target (read_beat shape levels k))) (λ last sum. read_touches levels low last sum ks)
    where
      by_own : (x y : Bool) → ((last : Option Touch) (sum : ℕ) → system_touches system host agent last sum (map (read_beat shape levels) ks) ≡ touches_from target shape last sum (map (read_beat shape levels) ks)) →
          (if x then sum ∷ system_touches system host agent None 0 (map (read_beat shape levels) ks)
          else if y then system_touches system host agent (Some (touch_in target (read_beat shape levels k))) (sum + size (read_beat shape levels k)) (map (read_beat shape levels) ks)
          else sum ∷ system_touches system host agent (Some (touch_in target (read_beat shape levels k))) (size (read_beat shape levels k)) (map (read_beat shape levels) ks))
          ≡ (if x then sum ∷ touches_from target shape None 0 (map (read_beat shape levels) ks)
          else if y then touches_from target shape (Some (touch_in target (read_beat shape levels k))) (sum + size (read_beat shape levels k)) (map (read_beat shape levels) ks)
          else sum ∷ touches_from target shape (Some (touch_in target (read_beat shape levels k))) (size (read_beat shape levels k)) (map (read_beat shape levels) ks))
      by_own true y rest = ap (λ l. sum ∷ l) (rest None 0)
      by_own false true rest = rest (Some (touch_in target (read_beat shape levels k))) (sum + size (read_beat shape levels k))
      by_own false false rest = ap (λ l. sum ∷ l) (rest (Some (touch_in target (read_beat shape levels k))) (size (read_beat shape levels k)))

  same_touches : (levels : Levels) (burst : Burst) → base ≤ (transfer_of shape levels burst).first →
      transfer_touches system host agent (transfer_of shape levels burst)
      ≡ (if is_of_reads (transfer_of shape levels burst).kind then touches_from target shape None 0 (transfer_of shape levels burst).beats else map size (transfer_of shape levels burst).beats)
  same_touches levels burst = by_write (is_raised levels.write)
    where
      by_write : (w : Bool) → base ≤ (if w then write_transfer shape levels burst else read_transfer shape levels).first →
          transfer_touches system host agent (if w then write_transfer shape levels burst else read_transfer shape levels)
          ≡ (if is_of_reads (if w then write_transfer shape levels burst else read_transfer shape levels).kind then touches_from target shape None 0 (if w then write_transfer shape levels burst else read_transfer shape levels).beats
          else map size (if w then write_transfer shape levels burst else read_transfer shape levels).beats)
      by_write true low = map_same placed_size size same_size (write_transfer shape levels burst).beats
      by_write false low = read_touches levels low None 0 (numbers 0 levels.count)

-- ---- the route

by_place : (agent : ℕ) (place : Option ℕ) → is_agent agent place ≡ true → place ≡ Some agent
by_place agent None e = cc
by_place agent (Some other) e = ap Some (sym (eqb-true agent other e))

middle : (s i o : Bool) → (s && i && o) ≡ true → i ≡ true
middle true true o e = refl
middle true false o e = e
middle false i o e = cc

module _ (system : System) (host agent end : ℕ) (up : Port) (down : ℕ → Port) (part : IsRoutePart system host up down end) (plan : IsRoutePlan system host up.shape) (there : agent < system.agents) where
  abbrev whither : ℕ → Bool
  whither c = is_agent agent (place_of system host (marked_at up c).transfer)

  takes_none : (c : ℕ) → c < end → whither c ≡ false → takes (down agent) c ≡ false
  takes_none c low e = by_take (takes (down agent) c) refl
    where
      by_take : (t : Bool) → takes (down agent) c ≡ t → t ≡ false
      by_take false t = refl
      by_take true t = sym (middle _ _ _ (sym (part.shown agent c there low) ∙ (and_parts (shows (down agent).commands.signals c) _ t).0)) ∙ e

  touched : (c : ℕ) → c < end → takes up c ≡ true → whither c ≡ true → touches_of (target_of system agent) (down agent).shape (marked_at (down agent) c) ≡ transfer_touches system host agent (marked_at up c).transfer
  touched c low t e =
      let to : place_of system host (marked_at up c).transfer ≡ Some agent = by_place agent _ e in
      let base = plan.base (marked_at up c).transfer.kind (marked_at up c).transfer.first agent to in
      let down_takes : takes (down agent) c ≡ true = sym (part.accepts agent c there low e) ∙ t in
      let same = part.same agent c there low (and_parts (shows (down agent).commands.signals c) _ down_takes).0 in
      ap₂ (λ s (m : Transfer). if is_of_reads m.kind then touches_from (target_of system agent) s None 0 m.beats else map (λ (b : Beat). length (beat_operations (target_of system agent) s b)) m.beats) (part.shape agent there) same
      ∙ sym (same_touches system host agent base.0 up.shape plan.words base.1 (levels_at up.commands.signals c) (burst_before up.shape up.commands.signals (takes up) c) base.2)

  pub route_takes : (c : ℕ) → c ≤ end →
      flat_map (touches_of (target_of system agent) (down agent).shape) (taken_at (down agent) c) ≡ flat_map (transfer_touches system host agent) (for_agent system host agent (map transfer_in (taken_at up c)))
  route_takes zero h = refl
  route_takes (suc c) h =
      flat_map-append (touches_of (target_of system agent) (down agent).shape) (taken_at (down agent) c) (only_if (takes (down agent) c) (marked_at (down agent) c))
      ∙ ap₂ (λ x y. x ++ y) (route_takes c (omega (arith, h))) (by_take (takes up c) refl (whither c) refl)
      ∙ sym (ap (λ l. flat_map (transfer_touches system host agent) (for_agent system host agent l)) (map-append transfer_in (taken_at up c) (only_if (takes up c) (marked_at up c)))
      ∙ ap (flat_map (transfer_touches system host agent)) (filter-append (λ (t : Transfer). is_agent agent (place_of system host t)) (map transfer_in (taken_at up c)) (map transfer_in (only_if (takes up c) (marked_at up c))))
      ∙ flat_map-append (transfer_touches system host agent) (for_agent system host agent (map transfer_in (taken_at up c))) (for_agent system host agent (map transfer_in (only_if (takes up c) (marked_at up c)))))
    where
      low : c < end
      low = omega (arith, h)

      by_take : (t : Bool) → takes up c ≡ t → (b : Bool) → whither c ≡ b →
          flat_map (touches_of (target_of system agent) (down agent).shape) (only_if (takes (down agent) c) (marked_at (down agent) c))
          ≡ flat_map (transfer_touches system host agent) (for_agent system host agent (map transfer_in (only_if (takes up c) (marked_at up c))))
      by_take t e false b =
          ap (λ x. flat_map (touches_of (target_of system agent) (down agent).shape) (only_if x (marked_at (down agent) c))) (takes_none c low b) ∙ sym (elsewhere (takes up c))
        where
          elsewhere : (x : Bool) → flat_map (transfer_touches system host agent) (for_agent system host agent (map transfer_in (only_if x (marked_at up c)))) ≡ []
          elsewhere true = ap (λ x. flat_map (transfer_touches system host agent) (if x then (marked_at up c).transfer ∷ [] else [])) b
          elsewhere false = refl
      by_take false e true b =
          ap (λ x. flat_map (touches_of (target_of system agent) (down agent).shape) (only_if x (marked_at (down agent) c))) (sym (part.accepts agent c there low b) ∙ e)
          ∙ sym (ap (λ x. flat_map (transfer_touches system host agent) (for_agent system host agent (map transfer_in (only_if x (marked_at up c))))) e)
      by_take true e true b =
          ap (λ x. flat_map (touches_of (target_of system agent) (down agent).shape) (only_if x (marked_at (down agent) c))) (sym (part.accepts agent c there low b) ∙ e)
          ∙ ap (λ l. l ++ []) (touched c low e b)
          ∙ sym (ap (λ x. flat_map (transfer_touches system host agent) (for_agent system host agent (map transfer_in (only_if x (marked_at up c))))) e
          ∙ ap (λ x. flat_map (transfer_touches system host agent) (if x then (marked_at up c).transfer ∷ [] else [])) b)

-- ---- the host

transfers_of_marked : (ms : List Marked) → map (λ (s : Sent). s.transfer) (sent_of ms) ≡ map transfer_in ms
transfers_of_marked [] = refl
transfers_of_marked (m ∷ ms) = ap (λ l. m.transfer ∷ l) (transfers_of_marked ms)

transfers_sent : (ts : List Transfer) → map (λ (s : Sent). s.transfer) (sent_by ts) ≡ ts
transfers_sent [] = refl
transfers_sent (t ∷ ts) = ap (λ l. t ∷ l) (transfers_sent ts)

-- what is taken behind the part next to a host is a front of what the host has presented
pub host_gives : (ms shown : List Marked) (ts : List Transfer) → IsPrefix ms shown → IsPrefix (sent_of shown) (sent_by ts) → IsPrefix (map transfer_in ms) ts
host_gives ms shown ts taken given =
    prefix_trans (prefix_map transfer_in taken)
    (subst (IsPrefix (map transfer_in shown)) (transfers_sent ts) (subst (λ l. IsPrefix l (map (λ (s : Sent). s.transfer) (sent_by ts))) (transfers_of_marked shown) (prefix_map (λ (s : Sent). s.transfer) given)))
