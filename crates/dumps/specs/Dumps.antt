-- What it is to dump a replay.
use Rattle.std.specs.Prelude.{◌≡◌, ℕ, ◌^◌, ◌≤◌, List, length}
use Rattle.av_base.specs.Word.{Word}
use Rattle.netlist.specs.Netlists.{Netlist}
use Rattle.netlist.specs.Runs.{Run}
use Rattle.replays.specs.Replays.{AreWaves, value_count}
use Rattle.replays.specs.Texts.{IsTextWith}
use Rattle.vcd_text.specs.Text.{dump_text}
use Rattle.dumps.specs.Rows.{dump_of, IsRunOn}

-- the text is that of the dump of all ports in the module's run on the rows of these waves
pub record IsDumpOf (netlist : Netlist) (bytes text : List ℕ) : Type 0 where
  pub rows : List (List Word)
  pub are_waves : AreWaves netlist bytes rows
  pub few : value_count netlist rows ≤ 2 ^ 32
  pub run : Run
  pub is_run : IsRunOn netlist rows run
  pub is_text : text ≡ dump_text (dump_of netlist run (length rows))

-- the same for the module of a text
abbrev pub IsDumpOfText : List ℕ → List ℕ → List ℕ → Type 0
IsDumpOfText bytes waves text = IsTextWith bytes (λ netlist. IsDumpOf netlist waves text)
