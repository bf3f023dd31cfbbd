-- One more host that is finished.
use Rattle.std.proofs.Common.{◌≡◌, ℕ, zero, suc, ◌+◌, ◌*◌, ◌<◌, List, [], ◌∷◌, ◌++◌, get_or, length, take, drop, sym, subst, ap, ◌∙◌, inl, inr, arith}
use Rattle.std.proofs.lemmas.List.{take_more, length-take-le}
use Rattle.std.proofs.Math.Seq.{drop-cons}
use Rattle.netlist.specs.Netlists.{Netlist, IsWaiting}
use Rattle.netlist.specs.Longer.{Extends}
use Rattle.net_parts.specs.Growth.{GrowsInMemory, WaitsWithout, StillWaitForWrite}
use Rattle.net_parts.specs.Laws.{grows_none, grows_without_memory}
use Rattle.memory_runs.specs.declared.sides.route.Route.{Route}
use Rattle.mm_route.specs.Forward.{forward_lasts}
use Rattle.mm_agent.specs.Memories.{memory_grows_within}
use Rattle.mm_fabric.specs.Trunks.{owns, trunk_lasts}
use Rattle.mm_fabric.specs.declared.begun.BegunHost.{BegunHost}
use Rattle.mm_fabric.specs.declared.parts.AgentPart.{AgentPart}
use Rattle.mm_fabric.specs.declared.parts.HostPart.{HostPart}
use Rattle.mm_fabric.specs.Begun.{IsOfAny, AreApart}
use Rattle.mm_fabric.specs.Tells.{AllCanTell}
use Rattle.mm_fabric.specs.Lasting.{host_part_lasts}
use Rattle.mm_fabric.proofs.Beginning.{of_more}
use Rattle.mm_fabric.proofs.LoneSeats.{lone_way_lasts}
use Rattle.mm_fabric.proofs.Telling.{told_lasts}
use Rattle.mm_fabric.specs.Finished.{MayFinish, AllMayFinish, IsFinished, AreFinished, finished_nets, AreFinishedSoFar}

-- ---- what is given, in a longer netlist

tell_lasts : (old new : Netlist) (bits host : ℕ) (parts : List AgentPart) (routes : List Route) → AllCanTell old bits host parts routes → Extends old new → AllCanTell new bits host parts routes
tell_lasts old new bits host parts [] h e = tt
tell_lasts old new bits host parts (route ∷ routes) h e = (
  record { seat = h.0.seat; has = h.0.has; told = told_lasts old new bits h.0.seat h.0.told e },
  tell_lasts old new bits host parts routes h.1 e,
)

may_last : (old new : Netlist) (parts : List AgentPart) (number : ℕ) (begun : BegunHost) → MayFinish old parts number begun → Extends old new → ((n : ℕ) → owns begun.trunk n → IsWaiting old n → IsWaiting new n) → MayFinish new parts number begun
may_last old new parts number begun h e w = record {
  bounded = h.bounded;
  trunk = trunk_lasts old new begun.port (length begun.routes) begun.trunk h.trunk e w;
  lone = λ free. lone_way_lasts old new parts number begun (h.lone free) e;
  few = h.few;
  forward = forward_lasts begun.routes number begun.trunk.host.command begun.commands.items begun.trunk.route old new h.forward e;
  tell = tell_lasts old new _ number parts begun.routes h.tell e;
}

all_may_last : (old new : Netlist) (parts : List AgentPart) (number : ℕ) (begun : List BegunHost) → AllMayFinish old parts number begun → Extends old new → ((n : ℕ) → IsOfAny begun n → IsWaiting old n → IsWaiting new n) → AllMayFinish new parts number begun
all_may_last old new parts number [] h e w = tt
all_may_last old new parts number (first ∷ later) h e w = (may_last old new parts number first h.0 e (λ n o. w n (inl o)), all_may_last old new parts (number + 1) later h.1 e (λ n o. w n (inr o)))

-- ---- what is made, in a longer netlist

made_last : (old new : Netlist) (parts : List AgentPart) (number : ℕ) (begun : List BegunHost) (hosts : List HostPart) → AreFinished old parts number begun hosts → Extends old new → AreFinished new parts number begun hosts
made_last old new parts number [] [] h e = tt
made_last old new parts number [] (host ∷ hosts) h e = absurd h
made_last old new parts number (first ∷ later) [] h e = absurd h
made_last old new parts number (first ∷ later) (host ∷ hosts) h e = (
  record { is = host_part_lasts old new number first.routes host h.0.is e; port = h.0.port; nets = h.0.nets; commands = h.0.commands; backs = h.0.backs },
  made_last old new parts (number + 1) later hosts h.1 e,
)

made_more : (netlist : Netlist) (parts : List AgentPart) (from number : ℕ) (begun : List BegunHost) (hosts : List HostPart) (first : BegunHost) (host : HostPart) → AreFinished netlist parts from begun hosts → number ≡ from + length begun → IsFinished netlist parts number first host →
    AreFinished netlist parts from (begun ++ first ∷ []) (hosts ++ host ∷ [])
made_more netlist parts from number [] [] first host h e f = (subst (λ n. IsFinished netlist parts n first host) (e ∙ omega arith) f, tt)
made_more netlist parts from number [] (a ∷ hosts) first host h e f = absurd h
made_more netlist parts from number (a ∷ begun) [] first host h e f = absurd h
made_more netlist parts from number (a ∷ begun) (b ∷ hosts) first host h e f = (h.0, made_more netlist parts (from + 1) number begun hosts first host h.1 (omega (arith, e)) f)

-- ---- registers

of_drop : (begun : List BegunHost) (k n : ℕ) → IsOfAny (drop k begun) n → IsOfAny begun n
of_drop [] zero n o = o
of_drop [] (suc k) n o = o
of_drop (first ∷ later) zero n o = o
of_drop (first ∷ later) (suc k) n o = inr (of_drop later k n o)

-- a host has no register of a later one
apart_at : (begun : List BegunHost) (k : ℕ) (host : BegunHost) (later : List BegunHost) (n : ℕ) → AreApart begun → drop k begun ≡ host ∷ later → owns host.trunk n → ¬ IsOfAny later n
apart_at [] zero host later n h e o = absurd (cc)
apart_at [] (suc k) host later n h e o = absurd (cc)
apart_at (first ∷ rest) zero host later n h e o = (let same : first ≡ host = cc in let others : rest ≡ later = cc in subst (λ (bs : List BegunHost). ¬ IsOfAny bs n) others (h.0 n (subst (λ (b : BegunHost). owns b.trunk n) (sym same) o)))
apart_at (first ∷ rest) (suc k) host later n h e o = apart_at rest k host later n h.1 e o

-- ---- one more

ahead : (begun : List BegunHost) (count : ℕ) (first : BegunHost) → count < length begun → first ≡ get_or begun count first → drop count begun ≡ first ∷ drop (suc count) begun
ahead begun count first lt is = drop-cons begun count first lt ∙ ap (λ x. x ∷ drop (suc count) begun) (sym is)

-- the registers that are of no host wait on
pub wait_on : (old now new : Netlist) (begun : List BegunHost) (count : ℕ) (first : BegunHost) → count < length begun → first ≡ get_or begun count first → ((n : ℕ) → ¬ IsOfAny begun n → IsWaiting old n → IsWaiting now n) → ((n : ℕ) → ¬ owns first.trunk n → IsWaiting now n → IsWaiting new n) →
    (n : ℕ) → ¬ IsOfAny begun n → IsWaiting old n → IsWaiting new n
wait_on old now new begun count first lt is before waits n none w = waits n (λ own. none (of_drop begun count n (subst (λ (bs : List BegunHost). IsOfAny bs n) (sym (ahead begun count first lt is)) (inl own)))) (before n none w)

pub may_at : (netlist : Netlist) (parts : List AgentPart) (begun : List BegunHost) (count : ℕ) (first : BegunHost) → AllMayFinish netlist parts count (drop count begun) → count < length begun → first ≡ get_or begun count first → MayFinish netlist parts count first
may_at netlist parts begun count first h lt is = (subst (AllMayFinish netlist parts count) (ahead begun count first lt is) h).0

pub none_finished : (old : Netlist) (parts : List AgentPart) (begun : List BegunHost) → AllMayFinish old parts 0 begun → AreFinishedSoFar old old parts begun [] 0
none_finished old parts begun h = record { made = tt; rest = h; grows = grows_without_memory 0 old old (grows_none old); waits = λ n none w. w; no_more_wait = λ n w. (w, λ o. o); waits_for_write = λ m w. w; no_more_wait_for_write = λ m w. w }

pub one_more_finished : (old now new : Netlist) (parts : List AgentPart) (begun : List BegunHost) (hosts : List HostPart) (count : ℕ) (first : BegunHost) (host : HostPart) → AreFinishedSoFar old now parts begun hosts count → count < length begun → first ≡ get_or begun count first → AreApart begun →
    IsFinished new parts count first host → GrowsInMemory finished_nets 1 now new → ((n : ℕ) → ¬ owns first.trunk n → IsWaiting now n → IsWaiting new n) → WaitsWithout (owns first.trunk) now new → StillWaitForWrite now new → StillWaitForWrite new now → AreFinishedSoFar old new parts begun (hosts ++ host ∷ []) (count + 1)
one_more_finished old now new parts begun hosts count first host h lt is apart one grows waits no_more writes no_more_write =
    let cons = ahead begun count first lt is in
    let next : suc count ≡ count + 1 = omega arith in
    let taken : take (count + 1) begun ≡ take count begun ++ first ∷ [] = take_more begun count first lt ∙ ap (λ (x : BegunHost). take count begun ++ x ∷ []) (sym is) in
    let many = length-take-le count begun (omega arith) in
    record {
      made = subst (λ (bs : List BegunHost). AreFinished new parts 0 bs (hosts ++ host ∷ [])) (sym taken)
          (made_more new parts 0 count (take count begun) hosts first host (made_last now new parts 0 (take count begun) hosts h.made grows.extends) (omega (arith, many)) one);
      rest = subst (λ n. AllMayFinish new parts (count + 1) (drop n begun)) next
          (all_may_last now new parts (count + 1) (drop (suc count) begun) (subst (AllMayFinish now parts count) cons h.rest).1 grows.extends
          (λ n o w. waits n (λ own. apart_at begun count first (drop (suc count) begun) n apart cons own o) w));
      grows = memory_grows_within (finished_nets * count) finished_nets _ count 1 _ old now new h.grows grows (omega arith) (omega arith);
      waits = wait_on old now new begun count first lt is h.waits waits;
      no_more_wait = λ n w. (
          let late = no_more n w in
          let early = h.no_more_wait n late.0 in
          (early.0, λ o. elim (of_more (take count begun) first n (subst (λ (bs : List BegunHost). IsOfAny bs n) taken o)) [ inl before ↦ early.1 before | inr own ↦ late.1 own ])
          );
      waits_for_write = λ m w. writes m (h.waits_for_write m w);
      no_more_wait_for_write = λ m w. h.no_more_wait_for_write m (no_more_write m w);
    }
