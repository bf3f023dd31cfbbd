-- One more agent that is joined to its begun hosts.
use Rattle.std.proofs.Common.{◌≡◌, ℕ, zero, suc, ◌+◌, ◌*◌, ◌<◌, List, [], ◌∷◌, ◌++◌, get_or, length, take, refl, sym, subst, ap, ◌∙◌, arith}
use Rattle.std.specs.List.{AllZip}
use Rattle.std.proofs.lemmas.List.{map-append, take_more, length-map, length-take-le}
use Rattle.iface_roles.specs.declared.records.AgentPort.{AgentPort}
use Rattle.link_rules.specs.Plans.{PlanTable}
use Rattle.netlist.specs.Netlists.{Netlist}
use Rattle.netlist.specs.Longer.{Extends}
use Rattle.net_parts.specs.Growth.{GrowsInMemory, StillWait, StillWaitForWrite}
use Rattle.net_parts.specs.Laws.{extends_twice, grows_none, grows_without_memory}
use Rattle.mm_agent.specs.Memories.{memory_grows_fewer, memory_grows_within}
use Rattle.mm_agent.specs.Agents.{agent_lasts}
use Rattle.mm_arbiter.specs.declared.asker.Asker.{Asker}
use Rattle.mm_fabric.specs.declared.asks.AgentEnd.{AgentEnd}
use Rattle.mm_fabric.specs.declared.begun.BegunHost.{BegunHost}
use Rattle.mm_fabric.specs.declared.parts.AgentPart.{AgentPart}
use Rattle.mm_fabric.specs.declared.parts.Seat.{Seat}
use Rattle.mm_fabric.specs.Asks.{asking, AllCanAsk, IsSeatFor}
use Rattle.mm_fabric.specs.Lasting.{agent_part_lasts, meets_lasts}
use Rattle.mm_fabric.specs.Joined.{IsAgentEnd, AreAgentEnds, IsJoined, AreJoinedFrom, end_of, most_agent_nets, link_nets, most_memories, AreJoinedSoFar}
use Rattle.mm_fabric.proofs.Beginning.{begun_lasts}
use Rattle.mm_fabric.proofs.Telling.{told_lasts}
use Rattle.mm_fabric.proofs.Counting.{links_more}

-- ---- what is given

all_can_last : (plan : PlanTable) (old new : Netlist) (agent : ℕ) (port : AgentPort) (begun : List BegunHost) (askers : List Asker) → AllCanAsk plan old agent port begun askers → Extends old new → StillWait old new → AllCanAsk plan new agent port begun askers
all_can_last plan old new agent port begun [] h e w = tt
all_can_last plan old new agent port begun (asker ∷ later) h e w = (
  record { command = h.0.command; host = h.0.host; at = h.0.at; leads = h.0.leads; is = begun_lasts plan old new asker.host h.0.host h.0.is e (λ n o. w n); pair = h.0.pair; word = h.0.word; span = h.0.span },
  all_can_last plan old new agent port begun later h.1 e w,
)

end_lasts : (plan : PlanTable) (old new : Netlist) (begun : List BegunHost) (number : ℕ) (end : AgentEnd) → IsAgentEnd plan old begun number end → Extends old new → StillWait old new → IsAgentEnd plan new begun number end
end_lasts plan old new begun number end h e w = record {
  bounded = h.bounded;
  nets = agent_lasts old new end.port end.nets h.nets e;
  askers = h.askers;
  few = h.few;
  asks = all_can_last plan old new number end.port begun _ h.asks e w;
}

end_from : (plan : PlanTable) (netlist : Netlist) (begun : List BegunHost) (from k : ℕ) (ends : List AgentEnd) (end : AgentEnd) → AreAgentEnds plan netlist begun from ends → k < length ends → end ≡ get_or ends k end → IsAgentEnd plan netlist begun (from + k) end
end_from plan netlist begun from k [] end h lt e = absurd (omega arith)
end_from plan netlist begun from zero (first ∷ later) end h lt e = subst (IsAgentEnd plan netlist begun (from + 0)) (sym e) (subst (λ n. IsAgentEnd plan netlist begun n first) (omega arith) h.0)
end_from plan netlist begun from (suc k) (first ∷ later) end h lt e = subst (λ n. IsAgentEnd plan netlist begun n end) (omega arith) (end_from plan netlist begun (from + 1) k later end h.1 (omega arith) e)

pub end_at : (plan : PlanTable) (old now : Netlist) (begun : List BegunHost) (k : ℕ) (ends : List AgentEnd) (end : AgentEnd) → AreAgentEnds plan old begun 0 ends → Extends old now → StillWait old now → k < length ends → end ≡ get_or ends k end → IsAgentEnd plan now begun k end
end_at plan old now begun k ends end h e w lt is = end_lasts plan old now begun k end (subst (λ n. IsAgentEnd plan old begun n end) (omega arith) (end_from plan old begun 0 k ends end h lt is)) e w

-- ---- what is made, in a longer netlist

seats_last : (old new : Netlist) (port : AgentPort) (agent : ℕ) (begun : List BegunHost) (askers : List Asker) (seats : List Seat) → AllZip (IsSeatFor old port agent begun) askers seats → Extends old new → AllZip (IsSeatFor new port agent begun) askers seats
seats_last old new port agent begun [] [] h e = tt
seats_last old new port agent begun [] (seat ∷ seats) h e = absurd h
seats_last old new port agent begun (asker ∷ askers) [] h e = absurd h
seats_last old new port agent begun (asker ∷ askers) (seat ∷ seats) h e = (
  record { one = h.0.one; asks = h.0.asks; seated = record { meets = meets_lasts old new h.0.one.port port h.0.one.command seat h.0.seated.meets e; told = told_lasts old new _ seat h.0.seated.told e } },
  seats_last old new port agent begun askers seats h.1 e,
)

pub joined_last : (plan : PlanTable) (old new : Netlist) (begun : List BegunHost) (number : ℕ) (parts : List AgentPart) → AreJoinedFrom plan old begun number parts → Extends old new → AreJoinedFrom plan new begun number parts
joined_last plan old new begun number [] h e = tt
joined_last plan old new begun number (part ∷ parts) h e = (
  record {
    is = agent_part_lasts old new plan.system.stages part h.0.is e;
    askers = h.0.askers;
    seats = seats_last old new part.port number begun _ part.seats h.0.seats e;
    bounds = λ none words valid seat only longer f. h.0.bounds none words valid seat only longer (extends_twice old new longer e f);
  },
  joined_last plan old new begun (number + 1) parts h.1 e,
)

-- ---- one more

joined_more : (plan : PlanTable) (netlist : Netlist) (begun : List BegunHost) (from number : ℕ) (parts : List AgentPart) (last : AgentPart) → AreJoinedFrom plan netlist begun from parts → number ≡ from + length parts → IsJoined plan netlist begun number last → AreJoinedFrom plan netlist begun from (parts ++ last ∷ [])
joined_more plan netlist begun from number [] last h e l = (subst (λ n. IsJoined plan netlist begun n last) (e ∙ omega arith) l, tt)
joined_more plan netlist begun from number (first ∷ later) last h e l = (h.0, joined_more plan netlist begun (from + 1) number later last h.1 (omega (arith, e)) l)

pub none_joined : (plan : PlanTable) (old : Netlist) (begun : List BegunHost) (ends : List AgentEnd) → AreJoinedSoFar plan old old begun ends [] 0
none_joined plan old begun ends = record { ends_are = refl; each = tt; grows = memory_grows_fewer 0 _ 0 _ old old (omega arith) (omega arith) (grows_without_memory 0 old old (grows_none old)); waits = λ n w. w; no_more_wait = λ n w. w; waits_for_write = λ m w. w; no_more_wait_for_write = λ m w. w }

pub one_more_joined : (plan : PlanTable) (old now new : Netlist) (begun : List BegunHost) (ends : List AgentEnd) (parts : List AgentPart) (count : ℕ) (end : AgentEnd) (last : AgentPart) → AreJoinedSoFar plan old now begun ends parts count → count < length ends → end ≡ get_or ends count end →
    IsJoined plan new begun count last → end_of last ≡ end → GrowsInMemory (most_agent_nets + link_nets * length (asking plan.system count)) (most_memories 1 (length (asking plan.system count))) now new → StillWait now new → StillWait new now → StillWaitForWrite now new → StillWaitForWrite new now → AreJoinedSoFar plan old new begun ends (parts ++ last ∷ []) (count + 1)
one_more_joined plan old now new begun ends parts count end last h lt is one same grows waits no_more writes no_more_writes =
    let more = links_more plan.system count in
    let many : length parts ≡ count = sym (length-map parts end_of) ∙ ap (λ (es : List AgentEnd). length es) h.ends_are ∙ length-take-le count ends (omega arith) in
    record {
      ends_are = map-append end_of parts (last ∷ []) ∙ ap (λ es. es ++ end_of last ∷ []) h.ends_are ∙ ap (λ e. take count ends ++ e ∷ []) (same ∙ is) ∙ sym (take_more ends count end lt);
      each = joined_more plan new begun 0 count parts last (joined_last plan now new begun 0 parts h.each grows.extends) (omega (arith, many)) one;
      grows = memory_grows_within _ _ _ _ _ _ old now new h.grows grows (omega (arith, more)) (omega (arith, more));
      waits = λ n w. waits n (h.waits n w);
      no_more_wait = λ n w. h.no_more_wait n (no_more n w);
      waits_for_write = λ m w. writes m (h.waits_for_write m w);
      no_more_wait_for_write = λ m w. h.no_more_wait_for_write m (no_more_writes m w);
    }
