-- What is dumped can be replayed, and a dump has one text.
use Rattle.std.proofs.Common.{◌≡◌, ℕ, List, length, sym, ap, subst, ◌∙◌}
use Rattle.av_base.specs.Word.{Word}
use Rattle.netlist.specs.Netlists.{Netlist, IsModule}
use Rattle.netlist.specs.Runs.{Run}
use Rattle.verilog_writer.specs.Text.{text_of}
use Rattle.vcd_text.specs.Text.{dump_text}
use Rattle.dumps.specs.Rows.{dump_of, IsRunOn}
use Rattle.replays.specs.Replays.{AreWaves}
use Rattle.replays.specs.Texts.{CanReplayText}
use Rattle.dumps.specs.Dumps.{IsDumpOf, IsDumpOfText}

pub can_replay : (text waves dump : List ℕ) → IsDumpOfText text waves dump → CanReplayText text waves
can_replay text waves dump is = record {
  netlist = is.netlist;
  is_module = is.is_module;
  is_text = is.is_text;
  holds = record { rows = is.holds.rows; are_waves = is.holds.are_waves; few = is.holds.few };
}

-- what is known of the readings of waves, and of runs
pub record AreJudged (waves : List ℕ) : Type 0 where
  pub one_module : (one other : Netlist) → IsModule one → IsModule other → text_of one ≡ text_of other → one ≡ other
  pub one_reading : (netlist : Netlist) (one other : List (List Word)) → AreWaves netlist waves one → AreWaves netlist waves other → one ≡ other
  pub one_dump : (netlist : Netlist) → IsModule netlist → (rows : List (List Word)) (one other : Run) → IsRunOn netlist rows one → IsRunOn netlist rows other
      → dump_of netlist one (length rows) ≡ dump_of netlist other (length rows)

on_module : (netlist : Netlist) (waves one other : List ℕ) → AreJudged waves → IsModule netlist → IsDumpOf netlist waves one → IsDumpOf netlist waves other → one ≡ other
on_module netlist waves one other law sound x y =
    let same = law.one_reading netlist y.rows x.rows y.are_waves x.are_waves in
    let on = subst (λ (rows : List (List Word)). IsRunOn netlist rows y.run) same y.is_run in
    x.is_text
    ∙ ap dump_text (law.one_dump netlist sound x.rows x.run y.run x.is_run on)
    ∙ ap (λ (rows : List (List Word)). dump_text (dump_of netlist y.run (length rows))) (sym same)
    ∙ sym y.is_text

pub one_dump : (text waves one other : List ℕ) → AreJudged waves → IsDumpOfText text waves one → IsDumpOfText text waves other → one ≡ other
one_dump text waves one other law x y =
    let same = law.one_module x.netlist y.netlist x.is_module y.is_module (sym x.is_text ∙ y.is_text) in
    on_module y.netlist waves one other law y.is_module (subst (λ (netlist : Netlist). IsDumpOf netlist waves one) same x.holds) y.holds
