use Rattle.std.proofs.Common.{◌≡◌, ℕ, ◌+◌, Bool, true, false, if◌then◌else◌, arith, refl, subst, IsTrue}
use Rattle.memory_runs.specs.Onward.{MovesWithin}
use Rattle.memory_runs.specs.Whole.{IsLegalRun}
use Rattle.memory_awake.specs.RowSystem.{AreRows, boundaries_of}
use Rattle.memory_awake.specs.Theorem.{AreMachines}
use Rattle.memory_waits.specs.Neighbours.{row_steps}
use Rattle.memory_waits.specs.Waits.{waiting_window}
use Rattle.memory_waits.specs.Windows.{own_steps, are_alike, row_window}
use Rattle.memory_waits.proofs.Alike.{one_of}
use Rattle.memory_waits.proofs.hosts.no_host_hangs.Goals as goal

pub returns : goal.returns
returns c = λ responses system run ports states end planned machines rows legal.
    let built = c.machines_with_links_are_built.ensures.built responses system run ports states (end + 2) planned machines rows legal in
    let same : end + 2 ≡ end + 1 + 1 = omega arith in
    let all = subst (λ n. AreMachines responses system run (boundaries_of ports) states n) same machines in
    let links = subst (λ n. AreRows system run ports n) same rows in
    let fair = subst (λ n. IsLegalRun system run n) same legal in
    record {
      moves = λ agent host there low joined.
          let behind_rows : MovesWithin (row_window system agent host) system run agent host end =
          (let others = c.rows_take_few_steps.ensures responses system run ports states (end + 1) agent planned all links fair there in
          let led = c.rows_lead_down.ensures responses system run ports states (end + 1) agent host planned all links fair there low joined in
          c.hosts_beside_links_move.ensures.words responses system run (boundaries_of ports) states built.0 end agent host (own_steps system agent host) led.0 led.1 (row_steps system agent) others.0 built.1 legal there led.2 others.1 joined low) in
          let wired : IsTrue (are_alike system agent) → MovesWithin (waiting_window system agent host) system run agent host end =
          (λ alike. c.wired_hosts_move.ensures.wired responses system run (boundaries_of ports) states built.0 end agent host built.1 legal there
          (λ other is. rows.wired other agent (planned.joined agent other is) there is (one_of _ (system.joined agent) other alike is)) joined low) in
          by_alike (λ size. MovesWithin size system run agent host end) (are_alike system agent) wired behind_rows;
    }
  where
    by_alike : (Moves : ℕ → Type 0) {short long : ℕ} (b : Bool) → (IsTrue b → Moves short) → Moves long → Moves (if b then short else long)
    by_alike Moves true wired rows = wired refl
    by_alike Moves false wired rows = rows
