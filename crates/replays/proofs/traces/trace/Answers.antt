use Rattle.std.proofs.Common.{◌≡◌, ◌++◌, ℕ, List, length, string_bytes, sym, ap, subst, ◌∙◌, arith}
use Rattle.av_base.specs.Word.{Word}
use Rattle.cycle_sim.specs.Sims.{given_to, present}
use Rattle.replays.specs.Traces.{end_line}
use Rattle.replays.proofs.TextLemmas.{written_back}
use Rattle.replays.proofs.RunLemmas.{IsTraced, none_traced, next_traced, all_traced}
use Rattle.replays.proofs.traces.trace.Goals as goal

pub cycles-init : goal.cycles-init
cycles-init c = record {
  room = c.in_ok-row.ensures;
  traced = subst (λ (t : List ℕ). IsTraced c.args.sim.now.netlist c.args.waves.now.rows c.args.sim.now 0 t) (sym c.new-text.ensures.bytes) (none_traced c.args.waves.now.rows c.args.sim.now c.requires.new);
}

pub cycles-preserved : goal.cycles-preserved
cycles-preserved c =
    let all : c.cycles.row.len ≡ length c.cycles.row.items = omega arith in
    let kept : length c.row.new.into ≡ length c.cycles.row.items = omega (arith, ap (λ (xs : List Word). length xs) c.as_mut_slice.ensures.value) in
    let back = written_back c.row.new.into c.cycles.row.items c.cycles.row.len all kept in
    let given : c.as_slice.result.now ≡ c.row.new.into = c.as_slice.ensures.value ∙ back in
    record {
      room = ap (λ (xs : List Word). length xs) back ∙ kept ∙ c.cycles.invariant.room;
      traced = next_traced c.args.sim.now.netlist c.args.waves.now.rows c.cycles.sim c.step.new.self c.advance.new.self c.cycles.cycle c.row.new.into (string_bytes c.cycles.text) (string_bytes c.put_cycle.new.text)
          c.cycles.invariant.traced
          (record {
            is_row = c.row.ensures.row;
            step_netlist = c.step.ensures.netlist;
            step_inputs = λ k w is. subst (λ (xs : List Word). (present c.step.new.self).input k ≡ given_to c.step.new.self.netlist xs k) given (c.step.ensures.inputs k w is);
            step_stands = c.step.ensures.stands;
            edge_netlist = c.advance.ensures.netlist;
            edge_stands = c.advance.ensures.stands;
            told = c.in_ok-put_cycle.ensures;
          });
    }

pub returns : goal.returns
returns c =
    let all : c.cycles.cycle ≡ length c.args.waves.now.rows = omega arith in
    let same : c.cycles-2.result ≡ c.cycles.cycle = omega arith in
    all_traced c.args.sim.now.netlist c.args.waves.now.rows c.cycles.sim c.cycles.cycle (string_bytes c.cycles.text) (string_bytes c.put_end.new.text) all c.cycles.invariant.traced
    (c.in_ok-put_end.ensures ∙ ap (λ (n : ℕ). string_bytes c.cycles.text ++ end_line n) same)
