-- Links of some hosts: so many begun, and so many finished.
use Rattle.std.proofs.Common.{◌≡◌, ℕ, suc, ◌+◌, ◌*◌, ◌<◌, true, List, [], ◌∷◌, ◌++◌, take, drop, length, get_or, length-append, refl, sym, subst, ap, ◌∙◌, inl, inr, arith}
use Rattle.std.proofs.lemmas.List.{take_all, drop_all}
use Rattle.iface_roles.specs.declared.records.AgentPort.{AgentPort}
use Rattle.netlist.specs.Netlists.{Netlist, IsWaiting, WaitsForWrite}
use Rattle.net_parts.specs.Growth.{GrowsInMemory, StillWait, WaitsBeside, WaitsWithout, StillWaitForWrite, WriteWaitsBeside, WriteWaitsWithout}
use Rattle.net_parts.specs.Laws.{extends_twice, grows_none, grows_without_memory}
use Rattle.mm_agent.specs.Memories.{memory_grows_fewer, memory_grows_within}
use Rattle.command_nets.specs.declared.nets.CommandNets.{CommandNets}
use Rattle.command_nets.specs.Nets.{AreCommandNets, widths_of}
use Rattle.link_core.specs.Rows.{IgnoresInLonger}
use Rattle.mm_route.specs.declared.back.BackNets.{BackNets}
use Rattle.mm_width.specs.Pairs.{widths_below, is_wire_pair}
use Rattle.mm_width.specs.Widths.{BegunWidth, AreBegunWidths, IsOfAnyWidth, IsStoredByAnyWidth, IsPushed, width_of, owns_width, stores_width, width_command_nets, width_answer_nets, width_memories}
use Rattle.mm_fabric.specs.declared.parts.Asking.{Asking}
use Rattle.mm_fabric.specs.declared.parts.Seat.{Seat}
use Rattle.mm_fabric.specs.Rows.{AllThree, MayLead, LeadsBelow, LeadsToSeat, IsOfRows, IsStoredByRows, TellsSeat}
use Rattle.mm_fabric.proofs.RowsApart.{none_are_begun, any_of_rows, stored_by_rows}
use Rattle.mm_fabric.proofs.RowsOfLinks.{three_push, three_map, three_pop, three_before, three_first, three_last, of_rows_more, of_rows_last, of_rows_either, stored_more, stored_last, stored_either, bears_last, leads_last, tells_last, tells_seat, IsFinishedRow}

-- ---- begun

pub record RowsSoFar (old now : Netlist) (agent : AgentPort) (stages count : ℕ) (asking : List Asking) (rows : List BegunWidth) (commands : List CommandNets) : Type 0 where
  pub leads : AllThree (LeadsBelow now agent stages) asking rows commands
  pub begun : AreBegunWidths rows now
  pub grows : GrowsInMemory (width_command_nets * count) (width_memories * count) old now
  pub waits : StillWait old now
  pub newly : WaitsBeside (IsOfRows rows) old now
  pub apart : (n : ℕ) → IsOfRows rows n → ¬ IsWaiting old n
  pub writes : StillWaitForWrite old now
  pub newly_written : WriteWaitsBeside (IsStoredByRows rows) old now
  pub memories_apart : (m : ℕ) → IsStoredByRows rows m → ¬ WaitsForWrite old m

-- what the first call of the links gave
pub record IsBegunRow (now new : Netlist) (agent : AgentPort) (one : Asking) (below : CommandNets) (later : List BegunWidth) : Type 0 where
  pub nets : AreCommandNets new below
  pub widths : widths_of below ≡ widths_below one.port agent (widths_of one.command)
  pub tag : below.tag ≡ one.command.tag
  pub wire : is_wire_pair one.port agent ≡ true → below ≡ one.command
  pub begun : AreBegunWidths later new
  pub ignores : IgnoresInLonger new one.command below
  pub grows : GrowsInMemory width_command_nets width_memories now new
  pub waits : StillWait now new
  pub newly : WaitsBeside (IsOfAnyWidth later) now new
  pub writes : StillWaitForWrite now new
  pub newly_written : WriteWaitsBeside (IsStoredByAnyWidth later) now new

pub one_more_begun : (old now new : Netlist) (agent : AgentPort) (stages count : ℕ) (asking : List Asking) (rows : List BegunWidth) (commands : List CommandNets) (one : Asking) (below : CommandNets) (later : List BegunWidth) → RowsSoFar old now agent stages count asking rows commands → MayLead old agent one →
    IsPushed now (width_of one.port agent stages) one.command below rows later → IsBegunRow now new agent one below later → RowsSoFar old new agent stages (count + 1) (asking ++ one ∷ []) later (commands ++ below ∷ [])
one_more_begun old now new agent stages count asking rows commands one below later h may pushed m =
    let row : BegunWidth = record { link = width_of one.port agent stages; from = one.command; to = pushed.to; kept = pushed.kept } in
    let e = m.grows.extends in
    let leads : LeadsBelow new agent stages one row below = record {
      row_is = record { pair = may.pair; bears = bears_last old new one.command may.bears (extends_twice old now new h.grows.extends e); link = refl; from = refl };
      nets = m.nets;
      is = pushed.below_is;
      widths = m.widths;
      tag = m.tag;
      ignores = m.ignores;
      wire = m.wire;
    } in
    record {
      leads = subst (λ (rs : List BegunWidth). AllThree (LeadsBelow new agent stages) (asking ++ one ∷ []) rs (commands ++ below ∷ [])) (sym pushed.is)
          (three_push (LeadsBelow new agent stages) asking rows commands one row below (three_map (LeadsBelow now agent stages) (LeadsBelow new agent stages) asking rows commands (λ a r c. leads_last now new agent stages a r c e) h.leads) leads);
      begun = m.begun;
      grows = memory_grows_within (width_command_nets * count) width_command_nets (width_command_nets * (count + 1)) (width_memories * count) width_memories (width_memories * (count + 1)) old now new h.grows m.grows (omega arith) (omega arith);
      waits = λ n w. m.waits n (h.waits n w);
      newly = λ n w. elim (m.newly n w) [
        | inl before ↦ elim (h.newly n before) [ inl older ↦ inl older | inr own ↦ inr (subst (λ (rs : List BegunWidth). IsOfRows rs n) (sym pushed.is) (of_rows_more rows row n own)) ]
        | inr own ↦ inr (any_of_rows later n own)
      ];
      apart = λ n o w. elim (of_rows_either rows row n (subst (λ (rs : List BegunWidth). IsOfRows rs n) pushed.is o)) [ inl before ↦ h.apart n before w | inr own ↦ absurd (pushed.fresh n own (h.waits n w)) ];
      writes = λ k w. m.writes k (h.writes k w);
      newly_written = λ k w. elim (m.newly_written k w) [
        | inl before ↦ elim (h.newly_written k before) [ inl older ↦ inl older | inr own ↦ inr (subst (λ (rs : List BegunWidth). IsStoredByRows rs k) (sym pushed.is) (stored_more rows row k own)) ]
        | inr own ↦ inr (stored_by_rows later k own)
      ];
      memories_apart = λ k o w. elim (stored_either rows row k (subst (λ (rs : List BegunWidth). IsStoredByRows rs k) pushed.is o)) [ inl before ↦ h.memories_apart k before w | inr own ↦ absurd (pushed.fresh_memories k own (h.writes k w)) ];
    }

pub none_begun : (now : Netlist) (agent : AgentPort) (stages : ℕ) (rows : List BegunWidth) (commands : List CommandNets) → rows ≡ [] → commands ≡ [] → RowsSoFar now now agent stages 0 [] rows commands
none_begun now agent stages rows commands e f = record {
  leads = subst (λ (rs : List BegunWidth). AllThree (LeadsBelow now agent stages) [] rs commands) (sym e) (subst (λ (ws : List CommandNets). AllThree (LeadsBelow now agent stages) [] [] ws) (sym f) tt);
  begun = subst (λ (rs : List BegunWidth). AreBegunWidths rs now) (sym e) (none_are_begun now);
  grows = memory_grows_fewer 0 (width_command_nets * 0) 0 (width_memories * 0) now now (omega arith) (omega arith) (grows_without_memory 0 now now (grows_none now));
  waits = λ n w. w;
  newly = λ n w. inl w;
  apart = λ n o. absurd (subst (λ (rs : List BegunWidth). IsOfRows rs n) e o);
  writes = λ m w. w;
  newly_written = λ m w. inl w;
  memories_apart = λ m o. absurd (subst (λ (rs : List BegunWidth). IsStoredByRows rs m) e o);
}

-- ---- finished

pub record ToldSoFar (old now : Netlist) (agent : AgentPort) (stages : ℕ) (asking : List Asking) (rows : List BegunWidth) (seats : List Seat) (left : List BegunWidth) (told : List BackNets) : Type 0 where
  pub leads : AllThree (LeadsToSeat old agent stages) (take (length left) asking) left (take (length left) seats)
  pub told_are : AllThree (TellsSeat now agent) (drop (length left) asking) (drop (length left) seats) told
  pub begun : AreBegunWidths left now
  pub count : length left + length told ≡ length asking
  pub same : length asking ≡ length seats
  pub grows : GrowsInMemory (width_answer_nets * length told) 0 old now
  pub waits : (n : ℕ) → ¬ IsOfRows rows n → IsWaiting old n → IsWaiting now n
  pub no_more_wait : (n : ℕ) → IsWaiting now n → IsWaiting old n × (IsOfRows rows n → IsOfRows left n)
  pub left_of : (n : ℕ) → IsOfRows left n → IsOfRows rows n
  pub writes : (m : ℕ) → ¬ IsStoredByRows rows m → WaitsForWrite old m → WaitsForWrite now m
  pub written : (m : ℕ) → WaitsForWrite now m → WaitsForWrite old m × (IsStoredByRows rows m → IsStoredByRows left m)
  pub stored_left : (m : ℕ) → IsStoredByRows left m → IsStoredByRows rows m

pub none_told : (now : Netlist) (agent : AgentPort) (stages : ℕ) (asking : List Asking) (rows : List BegunWidth) (seats : List Seat) (told : List BackNets) → AllThree (LeadsToSeat now agent stages) asking rows seats → AreBegunWidths rows now → told ≡ [] → ToldSoFar now now agent stages asking rows seats rows told
none_told now agent stages asking rows seats told h b e =
    let first = three_first (LeadsToSeat now agent stages) asking rows seats h in
    let last = three_last (LeadsToSeat now agent stages) asking rows seats h in
    record {
      leads = subst (λ (us : List Asking). AllThree (LeadsToSeat now agent stages) us rows (take (length rows) seats)) (sym (take_all (length rows) asking (omega (arith, first))))
          (subst (λ (ws : List Seat). AllThree (LeadsToSeat now agent stages) asking rows ws) (sym (take_all (length rows) seats (omega (arith, last)))) h);
      told_are = subst (λ (us : List Asking). AllThree (TellsSeat now agent) us (drop (length rows) seats) told) (sym (drop_all (length rows) asking (omega (arith, first))))
          (subst (λ (ws : List Seat). AllThree (TellsSeat now agent) [] ws told) (sym (drop_all (length rows) seats (omega (arith, last)))) (subst (λ (ts : List BackNets). AllThree (TellsSeat now agent) [] [] ts) (sym e) tt));
      begun = b;
      count = (let none = ap (length {A = BackNets}) e in omega (arith, none, first));
      same = sym first ∙ last;
      grows = memory_grows_fewer 0 (width_answer_nets * length told) 0 0 now now (omega arith) (omega arith) (grows_without_memory 0 now now (grows_none now));
      waits = λ n o w. w;
      no_more_wait = λ n w. (w, λ o. o);
      left_of = λ n o. o;
      writes = λ m o w. w;
      written = λ m w. (w, λ o. o);
      stored_left = λ m o. o;
    }

pub room_left : (old now : Netlist) (agent : AgentPort) (stages : ℕ) (asking : List Asking) (rows : List BegunWidth) (seats : List Seat) (left : List BegunWidth) (told : List BackNets) (rest : List BegunWidth) (row : BegunWidth) (k : ℕ) →
    ToldSoFar old now agent stages asking rows seats left told → left ≡ rest ++ row ∷ [] → k ≡ length rest → (k < length asking) × (k < length seats)
room_left old now agent stages asking rows seats left told rest row k h e place =
    let long : length left ≡ suc (length rest) = ap (length {A = BegunWidth}) e ∙ length-append rest (row ∷ []) ∙ omega arith in
    let count = h.count in
    let same = h.same in
    (omega (arith, long, count, place), omega (arith, long, count, place, same))

-- of these links the last are finished next
pub record IsLast (old now : Netlist) (agent : AgentPort) (stages : ℕ) (asking : List Asking) (seats : List Seat) (rest : List BegunWidth) (row : BegunWidth) (k : ℕ) (first : Asking) (seat : Seat) : Type 0 where
  pub leads : AllThree (LeadsToSeat old agent stages) (take k asking) rest (take k seats)
  pub is : LeadsToSeat old agent stages (get_or asking k first) row (get_or seats k seat)
  pub low : k < length asking
  pub below : k < length seats
  pub place : k ≡ length rest
  pub begun : AreBegunWidths (rest ++ row ∷ []) now

pub popped : (old now : Netlist) (agent : AgentPort) (stages : ℕ) (asking : List Asking) (rows : List BegunWidth) (seats : List Seat) (left : List BegunWidth) (told : List BackNets) (rest : List BegunWidth) (row : BegunWidth) (k : ℕ) (first : Asking) (seat : Seat) →
    ToldSoFar old now agent stages asking rows seats left told → left ≡ rest ++ row ∷ [] → k ≡ length rest → IsLast old now agent stages asking seats rest row k first seat
popped old now agent stages asking rows seats left told rest row k first seat h e place =
    let long : length left ≡ suc (length rest) = ap (length {A = BegunWidth}) e ∙ length-append rest (row ∷ []) ∙ omega arith in
    let count = h.count in
    let same = h.same in
    let given : AllThree (LeadsToSeat old agent stages) (take (suc (length rest)) asking) (rest ++ row ∷ []) (take (suc (length rest)) seats) =
    subst (λ n. AllThree (LeadsToSeat old agent stages) (take n asking) (rest ++ row ∷ []) (take n seats)) long (subst (λ (rs : List BegunWidth). AllThree (LeadsToSeat old agent stages) (take (length left) asking) rs (take (length left) seats)) e h.leads) in
    let low : length rest < length asking = omega (arith, long, count) in
    let below : length rest < length seats = omega (arith, low, same) in
    let both = three_pop (LeadsToSeat old agent stages) asking rest seats first row seat given low below in
    record {
      leads = subst (λ n. AllThree (LeadsToSeat old agent stages) (take n asking) rest (take n seats)) (sym place) both.0;
      is = subst (λ n. LeadsToSeat old agent stages (get_or asking n first) row (get_or seats n seat)) (sym place) both.1;
      low = omega (arith, low, place);
      below = omega (arith, below, place);
      place = place;
      begun = subst (λ (rs : List BegunWidth). AreBegunWidths rs now) e h.begun;
    }

pub one_more_told : (old now new : Netlist) (agent : AgentPort) (stages : ℕ) (asking : List Asking) (rows : List BegunWidth) (seats : List Seat) (left : List BegunWidth) (told : List BackNets) (rest : List BegunWidth) (row : BegunWidth) (k : ℕ) (first : Asking) (seat : Seat) (back : BackNets) →
    ToldSoFar old now agent stages asking rows seats left told → left ≡ rest ++ row ∷ [] → IsLast old now agent stages asking seats rest row k first seat → IsFinishedRow new agent (get_or asking k first) row (get_or seats k seat).back back → AreBegunWidths rest new → GrowsInMemory width_answer_nets 0 now new →
    ((n : ℕ) → ¬ owns_width row.kept n → IsWaiting now n → IsWaiting new n) → WaitsWithout (owns_width row.kept) now new →
    ((m : ℕ) → ¬ stores_width row.kept m → WaitsForWrite now m → WaitsForWrite new m) → WriteWaitsWithout (stores_width row.kept) now new → ToldSoFar old new agent stages asking rows seats rest (back ∷ told)
one_more_told old now new agent stages asking rows seats left told rest row k first seat back h e last finished begun grows waits without still written =
    let long : length left ≡ suc k = ap (length {A = BegunWidth}) e ∙ length-append rest (row ∷ []) ∙ (let place = last.place in omega (arith, place)) in
    let count = h.count in
    let place = last.place in
    let extends = extends_twice old now new h.grows.extends grows.extends in
    let tells : TellsSeat new agent (get_or asking k first) (get_or seats k seat) back = tells_seat old new agent stages (get_or asking k first) row (get_or seats k seat) back last.is extends finished in
    let before : AllThree (TellsSeat new agent) (drop (suc k) asking) (drop (suc k) seats) told =
    subst (λ n. AllThree (TellsSeat new agent) (drop n asking) (drop n seats) told) long
    (three_map (TellsSeat now agent) (TellsSeat new agent) (drop (length left) asking) (drop (length left) seats) told (λ a s t. tells_last now new agent a s t grows.extends) h.told_are) in
    let all = three_before (TellsSeat new agent) k asking seats told first seat back before tells last.low last.below in
    let of_left : (n : ℕ) → IsOfRows (rest ++ row ∷ []) n → IsOfRows rows n = λ n o. h.left_of n (subst (λ (rs : List BegunWidth). IsOfRows rs n) (sym e) o) in
    let stored_left : (m : ℕ) → IsStoredByRows (rest ++ row ∷ []) m → IsStoredByRows rows m = λ m o. h.stored_left m (subst (λ (rs : List BegunWidth). IsStoredByRows rs m) (sym e) o) in
    record {
      leads = subst (λ n. AllThree (LeadsToSeat old agent stages) (take n asking) rest (take n seats)) place last.leads;
      told_are = subst (λ n. AllThree (TellsSeat new agent) (drop n asking) (drop n seats) (back ∷ told)) place all;
      begun = begun;
      count = omega (arith, long, count, place);
      same = h.same;
      grows = memory_grows_within (width_answer_nets * length told) width_answer_nets (width_answer_nets * suc (length told)) 0 0 0 old now new h.grows grows (omega arith) (omega arith);
      waits = λ n none w. waits n (λ o. none (of_left n (of_rows_last rest row n o))) (h.waits n none w);
      no_more_wait = λ n w. (
          let before = without n w in
          let known = h.no_more_wait n before.0 in
          (known.0, λ o. elim (of_rows_either rest row n (subst (λ (rs : List BegunWidth). IsOfRows rs n) e (known.1 o))) [ inl more ↦ more | inr own ↦ absurd (before.1 own) ]));
      left_of = λ n o. of_left n (of_rows_more rest row n o);
      writes = λ m none w. still m (λ o. none (stored_left m (stored_last rest row m o))) (h.writes m none w);
      written = λ m w. (
          let before = written m w in
          let known = h.written m before.0 in
          (known.0, λ o. elim (stored_either rest row m (subst (λ (rs : List BegunWidth). IsStoredByRows rs m) e (known.1 o))) [ inl more ↦ more | inr own ↦ absurd (before.1 own) ]));
      stored_left = λ m o. stored_left m (stored_more rest row m o);
    }

pub one_fewer : (old now : Netlist) (agent : AgentPort) (stages : ℕ) (asking : List Asking) (rows : List BegunWidth) (seats : List Seat) (left : List BegunWidth) (told : List BackNets) (rest : List BegunWidth) (row : BegunWidth) → ToldSoFar old now agent stages asking rows seats left told → left ≡ rest ++ row ∷ [] → length told < length asking
one_fewer old now agent stages asking rows seats left told rest row h e =
    let long = ap (length {A = BegunWidth}) e ∙ length-append rest (row ∷ []) in
    let count = h.count in
    omega (arith, long, count)

pub wait_on : (old now : Netlist) (agent : AgentPort) (stages : ℕ) (asking : List Asking) (rows : List BegunWidth) (seats : List Seat) (left : List BegunWidth) (told : List BackNets) (rest : List BegunWidth) (row : BegunWidth) → ToldSoFar old now agent stages asking rows seats left told → left ≡ rest ++ row ∷ [] → {new : Netlist} →
    ((n : ℕ) → ¬ owns_width row.kept n → IsWaiting now n → IsWaiting new n) → (n : ℕ) → ¬ IsOfRows rows n → IsWaiting old n → IsWaiting new n
wait_on old now agent stages asking rows seats left told rest row h e waits n none w = waits n (λ o. none (h.left_of n (subst (λ (rs : List BegunWidth). IsOfRows rs n) (sym e) (of_rows_last rest row n o)))) (h.waits n none w)

-- what stands when all are finished
pub record AreAllTold (old now : Netlist) (agent : AgentPort) (asking : List Asking) (rows : List BegunWidth) (seats : List Seat) (told : List BackNets) : Type 0 where
  pub told_are : AllThree (TellsSeat now agent) asking seats told
  pub no_more_wait : WaitsWithout (IsOfRows rows) old now
  pub written : WriteWaitsWithout (IsStoredByRows rows) old now

pub all_told : (old now : Netlist) (agent : AgentPort) (stages : ℕ) (asking : List Asking) (rows : List BegunWidth) (seats : List Seat) (left : List BegunWidth) (told : List BackNets) → ToldSoFar old now agent stages asking rows seats left told → length left ≡ 0 → AreAllTold old now agent asking rows seats told
all_told old now agent stages asking rows seats [] told h none = record {
  told_are = h.told_are;
  no_more_wait = λ n w. (let known = h.no_more_wait n w in (known.0, known.1));
  written = λ m w. (let known = h.written m w in (known.0, known.1));
}
all_told old now agent stages asking rows seats (row ∷ left) told h none = absurd (omega (arith, none))
