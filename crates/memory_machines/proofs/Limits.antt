-- The limiter of the route is the limiter at the ports.
use Rattle.std.proofs.Common.{ℕ, zero, suc, ◌<◌, ◌≤◌, ◌≡◌, ◌+◌, ◌-◌, [], ◌∷◌, ◌++◌, List, Bool, true, false, not, IsTrue, Some, None, arith, refl, sym, ap, ◌∙◌, subst, length, filter, take, slice_get, MatchOption, nat_lt, tests, get_or}
use Rattle.std.specs.Prelude.{⊤}
use Rattle.std.proofs.lemmas.Option.{slice_get-get_or}
use Rattle.histories.specs.Laws.{prefix_trans, prefix_map, prefix_filter, prefix_flat_map, prefix_length}
use Rattle.memory_machines.proofs.Flows.{operations_front}
use Rattle.memory_machines.proofs.Parts.{shown_grows}
use Rattle.memory_machines.proofs.Back.{asked_front, given_count, host_answers, host_commands, route_answers}
use Rattle.memory_machines.proofs.Headline.{own_front, inner_path, route_carries}
use Rattle.histories.specs.History.{IsPrefix}
use Rattle.memory_runs.specs.Views.{Responses, System, Run}
use Rattle.memory_runs.specs.Views.Kind.{Reads}
use Rattle.memory_runs.specs.Operations.{is_read}
use Rattle.memory_runs.specs.Order.{Asked, beat_operations, is_agent, of_host, taken, reads_for, asked, KeepsReadOrder}
use Rattle.memory_machines.specs.Link.{shown_at, words_at}
use Rattle.memory_machines.specs.Lines.{group_of, items_among, placed_flow, Inside, Holds, Wired, Group, operations_of_groups, port_flow, tagged_flow, asked_at, target_of}
use Rattle.memory_runs.specs.Whole.{IsLegalRun}
use Rattle.memory_machines.specs.ReadLaws.{reads_match, uniform_shown}
use Rattle.memory_machines.specs.SideLaws.{prefix_get, prefix_take}

take_front : {A : Type 0} (xs rest : List A) (n : ℕ) → length xs ≤ n → IsPrefix xs (take n (xs ++ rest))
take_front [] rest n h = record { rest = take n rest; joins = refl }
take_front (x ∷ xs) rest zero h = absurd (omega arith)
take_front (x ∷ xs) rest (suc n) h = let p = take_front xs rest n (omega arith) in record { rest = p.rest; joins = ap (λ l. x ∷ l) p.joins }

module _ (responses : Responses) (system : System) (run : Run) (inside : Inside) (holds : Holds) (end : ℕ) (wired : Wired responses system run inside holds end) (legal : IsLegalRun system run end) where
  -- the reads that an agent has taken of a host are among those that the route has shown
  reads_shown : (h a c : ℕ) → h < system.hosts → a < system.agents → c ≤ end →
      length (filter is_read (of_host h (taken system run a c))) ≤ length (filter is_read (operations_of_groups ((port_flow (target_of system a) (inside.after_route h a)).shown c)))
  reads_shown h a c is there low =
      let target = target_of system a in
      let near = inside.before_agent a in
      let far = inside.after_route h a in
      let earlier = c - ((0 + 0) + system.stages) in
      let own = own_front responses system run inside holds end wired legal h a c is there low in
      let above = operations_front ((tagged_flow h target near.port).shown c) ((port_flow target far).shown earlier) ((inner_path responses system run inside holds end wired legal h a is there).in_order c low) in
      let grows = prefix_flat_map (λ (g : Group). g.operations) (prefix_map (group_of target far.shape) (shown_grows far earlier c (omega arith))) in
      prefix_length (prefix_filter is_read (prefix_trans own (prefix_trans above grows)))

  -- and no more than the host's part has shown
  reads_asked : (h a c : ℕ) → h < system.hosts → a < system.agents → c ≤ end →
      length (filter is_read (operations_of_groups ((port_flow (target_of system a) (inside.after_route h a)).shown c))) ≤ reads_for system h a (asked_at system h (inside.after_host h) c)
  reads_asked h a c is there low =
      let target = target_of system a in
      let up = inside.after_host h in
      let now : c - 0 ≡ c = omega arith in
      let placed_now = (placed_flow system h a up).shown c in
      let items : IsPrefix (items_among false ((port_flow target (inside.after_route h a)).shown c)) (items_among false placed_now) =
      subst (λ k. IsPrefix (items_among false ((port_flow target (inside.after_route h a)).shown c)) (items_among false ((placed_flow system h a up).shown k))) now
      ((route_carries responses system run inside holds end wired legal h a is there).in_order c low) in
      let few = prefix_length (prefix_filter is_read (operations_front ((port_flow target (inside.after_route h a)).shown c) placed_now items)) in
      let match = reads_match system h a (shown_at up c) (uniform_shown system h a up c) in
      omega (arith, few, match)

  pub limited : (h a : ℕ) → h < system.hosts → a < system.agents → KeepsReadOrder system run h a end
  limited h a is within c number low few other later =
      let up = inside.after_host h in
      let front = asked_front system run h holds.host up end (suc c) (host_commands responses system run inside holds end wired legal h is) (omega arith) in
      let counts = given_count responses system run h up end (suc c) (host_answers responses system run inside holds end wired legal h is) (omega arith) in
      let shown = reads_shown h a (suc c) is within (omega arith) in
      subst (λ n. number < n) (sym counts) (by_size front shown (nat_lt number (length (asked_at system h up (suc c)))) refl)
    where
      by_size : IsPrefix (asked_at system h (inside.after_host h) (suc c)) (asked system run h (suc c)) →
          length (filter is_read (of_host h (taken system run a (suc c)))) ≤ length (filter is_read (operations_of_groups ((port_flow (target_of system a) (inside.after_route h a)).shown (suc c)))) →
          (b : Bool) → nat_lt number (length (asked_at system h (inside.after_host h) (suc c))) ≡ b → number < length (words_at (inside.after_host h) (suc c))
      by_size front shown true less =
          let up = inside.after_host h in
          let inside_front : number < length (asked_at system h up (suc c)) = grind (arith, tests, less) in
          let same : take number (asked system run h (suc c)) ≡ take number (asked_at system h up (suc c)) = prefix_take front number (omega arith) in
          let q : Asked = get_or (asked_at system h up (suc c)) number (record { place = None; beat = record { kind = Reads; address = 0; word = 0; enables = 0 } }) in
          let got : slice_get (asked_at system h up (suc c)) number ≡ Some q = slice_get-get_or (asked_at system h up (suc c)) number _ inside_front in
          let got_all : slice_get (asked system run h (suc c)) number ≡ slice_get (asked_at system h up (suc c)) number = prefix_get front number q got ∙ sym got in
          (route_answers responses system run inside holds end wired legal h is).limited a c number within low inside_front
          (subst (λ o. MatchOption o ⊤ (λ q. IsTrue (not (is_agent a q.place)))) got_all other)
          (let sooner : reads_for system h a (take number (asked_at system h up (suc c))) < length (filter is_read (of_host h (taken system run a (suc c)))) = subst (λ l. reads_for system h a l < length (filter is_read (of_host h (taken system run a (suc c))))) same later in omega (arith, sooner, shown))
      by_size front shown false less =
          let up = inside.after_host h in
          let past : length (asked_at system h up (suc c)) ≤ number = grind (arith, tests, less) in
          let all = reads_asked h a (suc c) is within (omega arith) in
          let more = prefix_length (prefix_flat_map (λ (q : Asked). beat_operations system h a q.beat) (prefix_filter (λ (q : Asked). is_agent a q.place)
          (subst (λ l. IsPrefix (asked_at system h up (suc c)) (take number l)) front.joins (take_front (asked_at system h up (suc c)) front.rest number past)))) in
          absurd (omega (arith, all, shown, later, more))
