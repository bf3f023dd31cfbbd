-- Every part of the joint run keeps its line.
use Rattle.std.proofs.Common.{ℕ, suc, ◌<◌, ◌≤◌, ◌≡◌, ◌-◌, ◌+◌, ◌*◌, arith, refl, IsTrue, IsFalse, length, filter, nat_eq, true, false, not, ◌&&◌, slice_get, MatchOption, ◌||◌, tests}
use Rattle.std.specs.Prelude.{⊤}
use Rattle.histories.specs.Below.{each_below}
use Rattle.memory_machines.specs.Shorter.{legal_at_before}
use Rattle.histories.specs.History.{IsPrefix, is_raised, unreached, total, AreWithin}
use Rattle.histories.specs.History.AreWithin.{all_placed, placed}
use Rattle.memory_runs.specs.Views.{levels_at}
use Rattle.memory_runs.specs.Operations.{pieces}
use Rattle.memory_runs.specs.Legal.{IsLegalHost, is_under_way, unanswered, given, host_accepts, words_asked}
use Rattle.memory_runs.specs.Commands.{is_held, words_before, agent_accepts, shows, transfer_at}
use Rattle.memory_runs.specs.Order.{host_transfers, is_agent, is_joined, beats_taken, of_host, taken, answers, answers_to}
use Rattle.memory_runs.specs.Views.Responses.{AreZero}
use Rattle.memory_machines.specs.Link.{Target, Port, AreLegalAt, AnswersAreOwed, takes, shown_at, taken_at, words_owed, words_at, answers_at, read_beats}
use Rattle.memory_machines.specs.Blocks.{worded, blocks_at, codes_of}
use Rattle.memory_machines.specs.Lines.{Carries, HandsOn, serves_at, IsHostLine, IsRouteLine, IsArbiterLine, IsPipeLine, IsAgentLine, KeepsRow, Wired, sent_of, sent_by, host_accepted, placed_flow, port_flow, tagged_flow, target_of, items_among, beats_of, sizes_of, IsRouted, HasDefaultCode, asked_at, placed_blocks, bytes_of, answers_with, words_with, with_tag, are_whole, tagged_operations, groups_of}
use Rattle.memory_machines.specs.Lines.BringsLanes.{made}
use Rattle.runs_tests.specs.Joint.{joint_system, joint_run, joint_inside, joint_holds, host_port}
use Rattle.memory_runs.specs.Whole.{IsLegalRun}

p0_kind : (c : ℕ) → c < 6 → IsTrue (not (is_raised ((host_port 0).commands.signals.read c) && is_raised ((host_port 0).commands.signals.write c)))
p0_kind c h = each_below (λ c. IsTrue (not (is_raised ((host_port 0).commands.signals.read c) && is_raised ((host_port 0).commands.signals.write c)))) 6 c ((((((tt, refl), refl), refl), refl), refl), refl) h

p0_held : (c : ℕ) → c < 5 → IsTrue (is_held (host_port 0).commands.signals (takes (host_port 0)) c) → levels_at (host_port 0).commands.signals c ≡ levels_at (host_port 0).commands.signals (suc c)
p0_held c h = each_below (λ c. IsTrue (is_held (host_port 0).commands.signals (takes (host_port 0)) c) → levels_at (host_port 0).commands.signals c ≡ levels_at (host_port 0).commands.signals (suc c)) 5 c (((((tt, λ held. cc), λ held. cc), λ held. cc), λ held. cc), λ held. cc) h

p0_finished : (c : ℕ) → c < 6 → IsTrue (is_under_way (host_port 0).shape (host_port 0).commands.signals (takes (host_port 0)) c) → IsFalse (is_raised ((host_port 0).commands.signals.read c))
p0_finished c h = each_below (λ c. IsTrue (is_under_way (host_port 0).shape (host_port 0).commands.signals (takes (host_port 0)) c) → IsFalse (is_raised ((host_port 0).commands.signals.read c))) 6 c ((((((tt, λ under. cc), λ under. cc), λ under. cc), λ under. cc), λ under. cc), λ under. cc) h

p0_tag : (c : ℕ) → c < 5 → IsTrue (is_held (host_port 0).commands.signals (takes (host_port 0)) c) → (host_port 0).commands.tag c ≡ (host_port 0).commands.tag (suc c)
p0_tag c h = each_below (λ c. IsTrue (is_held (host_port 0).commands.signals (takes (host_port 0)) c) → (host_port 0).commands.tag c ≡ (host_port 0).commands.tag (suc c)) 5 c (((((tt, λ held. cc), λ held. cc), λ held. cc), λ held. cc), λ held. cc) h

p0_joined : (c : ℕ) → c < 6 → IsTrue (shows (host_port 0).commands.signals c) → IsTrue ((transfer_at (host_port 0).shape (host_port 0).commands.signals (takes (host_port 0)) c).ends || is_raised ((host_port 0).commands.more c))
p0_joined c h = each_below (λ c. IsTrue (shows (host_port 0).commands.signals c) → IsTrue ((transfer_at (host_port 0).shape (host_port 0).commands.signals (takes (host_port 0)) c).ends || is_raised ((host_port 0).commands.more c))) 6 c ((((((tt, λ s. cc), λ s. cc), λ s. cc), λ s. cc), λ s. cc), λ s. cc) h

p0_legal : AreLegalAt (host_port 0) 6
p0_legal = record {
  legal = record {
    one_kind = p0_kind;
    held = λ c low held. p0_held c (omega arith) held;
    least = λ c _ _ _. omega arith;
    most = λ c _ _ _. omega arith;
    finished = p0_finished;
  };
  tag = λ c low held. p0_tag c (omega arith) held;
  more = λ c _ _. refl;
  joined = p0_joined;
}

p1_kind : (c : ℕ) → c < 6 → IsTrue (not (is_raised ((host_port 1).commands.signals.read c) && is_raised ((host_port 1).commands.signals.write c)))
p1_kind c h = each_below (λ c. IsTrue (not (is_raised ((host_port 1).commands.signals.read c) && is_raised ((host_port 1).commands.signals.write c)))) 6 c ((((((tt, refl), refl), refl), refl), refl), refl) h

p1_held : (c : ℕ) → c < 5 → IsTrue (is_held (host_port 1).commands.signals (takes (host_port 1)) c) → levels_at (host_port 1).commands.signals c ≡ levels_at (host_port 1).commands.signals (suc c)
p1_held c h = each_below (λ c. IsTrue (is_held (host_port 1).commands.signals (takes (host_port 1)) c) → levels_at (host_port 1).commands.signals c ≡ levels_at (host_port 1).commands.signals (suc c)) 5 c (((((tt, λ held. refl), λ held. cc), λ held. cc), λ held. cc), λ held. cc) h

p1_finished : (c : ℕ) → c < 6 → IsTrue (is_under_way (host_port 1).shape (host_port 1).commands.signals (takes (host_port 1)) c) → IsFalse (is_raised ((host_port 1).commands.signals.read c))
p1_finished c h = each_below (λ c. IsTrue (is_under_way (host_port 1).shape (host_port 1).commands.signals (takes (host_port 1)) c) → IsFalse (is_raised ((host_port 1).commands.signals.read c))) 6 c ((((((tt, λ under. cc), λ under. cc), λ under. cc), λ under. cc), λ under. cc), λ under. cc) h

p1_tag : (c : ℕ) → c < 5 → IsTrue (is_held (host_port 1).commands.signals (takes (host_port 1)) c) → (host_port 1).commands.tag c ≡ (host_port 1).commands.tag (suc c)
p1_tag c h = each_below (λ c. IsTrue (is_held (host_port 1).commands.signals (takes (host_port 1)) c) → (host_port 1).commands.tag c ≡ (host_port 1).commands.tag (suc c)) 5 c (((((tt, λ held. refl), λ held. cc), λ held. cc), λ held. cc), λ held. cc) h

p1_joined : (c : ℕ) → c < 6 → IsTrue (shows (host_port 1).commands.signals c) → IsTrue ((transfer_at (host_port 1).shape (host_port 1).commands.signals (takes (host_port 1)) c).ends || is_raised ((host_port 1).commands.more c))
p1_joined c h = each_below (λ c. IsTrue (shows (host_port 1).commands.signals c) → IsTrue ((transfer_at (host_port 1).shape (host_port 1).commands.signals (takes (host_port 1)) c).ends || is_raised ((host_port 1).commands.more c))) 6 c ((((((tt, λ s. cc), λ s. cc), λ s. cc), λ s. cc), λ s. cc), λ s. cc) h

p1_legal : AreLegalAt (host_port 1) 6
p1_legal = record {
  legal = record {
    one_kind = p1_kind;
    held = λ c low held. p1_held c (omega arith) held;
    least = λ c _ _ _. omega arith;
    most = λ c _ _ _. omega arith;
    finished = p1_finished;
  };
  tag = λ c low held. p1_tag c (omega arith) held;
  more = λ c _ _. refl;
  joined = p1_joined;
}

x_kind : (c : ℕ) → c < 6 → IsTrue (not (is_raised ((joint_inside.after_arbiter 0).port.commands.signals.read c) && is_raised ((joint_inside.after_arbiter 0).port.commands.signals.write c)))
x_kind c h = each_below (λ c. IsTrue (not (is_raised ((joint_inside.after_arbiter 0).port.commands.signals.read c) && is_raised ((joint_inside.after_arbiter 0).port.commands.signals.write c)))) 6 c ((((((tt, refl), refl), refl), refl), refl), refl) h

x_held : (c : ℕ) → c < 5 → IsTrue (is_held (joint_inside.after_arbiter 0).port.commands.signals (takes (joint_inside.after_arbiter 0).port) c) → levels_at (joint_inside.after_arbiter 0).port.commands.signals c ≡ levels_at (joint_inside.after_arbiter 0).port.commands.signals (suc c)
x_held c h = each_below (λ c. IsTrue (is_held (joint_inside.after_arbiter 0).port.commands.signals (takes (joint_inside.after_arbiter 0).port) c) → levels_at (joint_inside.after_arbiter 0).port.commands.signals c ≡ levels_at (joint_inside.after_arbiter 0).port.commands.signals (suc c)) 5 c (((((tt, λ held. cc), λ held. cc), λ held. cc), λ held. cc), λ held. cc) h

x_finished : (c : ℕ) → c < 6 → IsTrue (is_under_way (joint_inside.after_arbiter 0).port.shape (joint_inside.after_arbiter 0).port.commands.signals (takes (joint_inside.after_arbiter 0).port) c) → IsFalse (is_raised ((joint_inside.after_arbiter 0).port.commands.signals.read c))
x_finished c h = each_below (λ c. IsTrue (is_under_way (joint_inside.after_arbiter 0).port.shape (joint_inside.after_arbiter 0).port.commands.signals (takes (joint_inside.after_arbiter 0).port) c) → IsFalse (is_raised ((joint_inside.after_arbiter 0).port.commands.signals.read c))) 6 c ((((((tt, λ under. cc), λ under. cc), λ under. cc), λ under. cc), λ under. cc), λ under. cc) h

x_tag : (c : ℕ) → c < 5 → IsTrue (is_held (joint_inside.after_arbiter 0).port.commands.signals (takes (joint_inside.after_arbiter 0).port) c) → (joint_inside.after_arbiter 0).port.commands.tag c ≡ (joint_inside.after_arbiter 0).port.commands.tag (suc c)
x_tag c h = each_below (λ c. IsTrue (is_held (joint_inside.after_arbiter 0).port.commands.signals (takes (joint_inside.after_arbiter 0).port) c) → (joint_inside.after_arbiter 0).port.commands.tag c ≡ (joint_inside.after_arbiter 0).port.commands.tag (suc c)) 5 c (((((tt, λ held. cc), λ held. cc), λ held. cc), λ held. cc), λ held. cc) h

x_joined : (c : ℕ) → c < 6 → IsTrue (shows (joint_inside.after_arbiter 0).port.commands.signals c) → IsTrue ((transfer_at (joint_inside.after_arbiter 0).port.shape (joint_inside.after_arbiter 0).port.commands.signals (takes (joint_inside.after_arbiter 0).port) c).ends || is_raised ((joint_inside.after_arbiter 0).port.commands.more c))
x_joined c h = each_below (λ c. IsTrue (shows (joint_inside.after_arbiter 0).port.commands.signals c) → IsTrue ((transfer_at (joint_inside.after_arbiter 0).port.shape (joint_inside.after_arbiter 0).port.commands.signals (takes (joint_inside.after_arbiter 0).port) c).ends || is_raised ((joint_inside.after_arbiter 0).port.commands.more c))) 6 c ((((((tt, λ s. cc), λ s. cc), λ s. cc), λ s. cc), λ s. cc), λ s. cc) h

x_legal : AreLegalAt (joint_inside.after_arbiter 0).port 6
x_legal = record {
  legal = record {
    one_kind = x_kind;
    held = λ c low held. x_held c (omega arith) held;
    least = λ c _ _ _. omega arith;
    most = λ c _ _ _. omega arith;
    finished = x_finished;
  };
  tag = λ c low held. x_tag c (omega arith) held;
  more = λ c _ _. refl;
  joined = x_joined;
}

y_kind : (c : ℕ) → c < 6 → IsTrue (not (is_raised ((joint_inside.before_agent 0).port.commands.signals.read c) && is_raised ((joint_inside.before_agent 0).port.commands.signals.write c)))
y_kind c h = each_below (λ c. IsTrue (not (is_raised ((joint_inside.before_agent 0).port.commands.signals.read c) && is_raised ((joint_inside.before_agent 0).port.commands.signals.write c)))) 6 c ((((((tt, refl), refl), refl), refl), refl), refl) h

y_held : (c : ℕ) → c < 5 → IsTrue (is_held (joint_inside.before_agent 0).port.commands.signals (takes (joint_inside.before_agent 0).port) c) → levels_at (joint_inside.before_agent 0).port.commands.signals c ≡ levels_at (joint_inside.before_agent 0).port.commands.signals (suc c)
y_held c h = each_below (λ c. IsTrue (is_held (joint_inside.before_agent 0).port.commands.signals (takes (joint_inside.before_agent 0).port) c) → levels_at (joint_inside.before_agent 0).port.commands.signals c ≡ levels_at (joint_inside.before_agent 0).port.commands.signals (suc c)) 5 c (((((tt, λ held. cc), λ held. cc), λ held. cc), λ held. cc), λ held. cc) h

y_finished : (c : ℕ) → c < 6 → IsTrue (is_under_way (joint_inside.before_agent 0).port.shape (joint_inside.before_agent 0).port.commands.signals (takes (joint_inside.before_agent 0).port) c) → IsFalse (is_raised ((joint_inside.before_agent 0).port.commands.signals.read c))
y_finished c h = each_below (λ c. IsTrue (is_under_way (joint_inside.before_agent 0).port.shape (joint_inside.before_agent 0).port.commands.signals (takes (joint_inside.before_agent 0).port) c) → IsFalse (is_raised ((joint_inside.before_agent 0).port.commands.signals.read c))) 6 c ((((((tt, λ under. cc), λ under. cc), λ under. cc), λ under. cc), λ under. cc), λ under. cc) h

y_tag : (c : ℕ) → c < 5 → IsTrue (is_held (joint_inside.before_agent 0).port.commands.signals (takes (joint_inside.before_agent 0).port) c) → (joint_inside.before_agent 0).port.commands.tag c ≡ (joint_inside.before_agent 0).port.commands.tag (suc c)
y_tag c h = each_below (λ c. IsTrue (is_held (joint_inside.before_agent 0).port.commands.signals (takes (joint_inside.before_agent 0).port) c) → (joint_inside.before_agent 0).port.commands.tag c ≡ (joint_inside.before_agent 0).port.commands.tag (suc c)) 5 c (((((tt, λ held. cc), λ held. cc), λ held. cc), λ held. cc), λ held. cc) h

y_joined : (c : ℕ) → c < 6 → IsTrue (shows (joint_inside.before_agent 0).port.commands.signals c) → IsTrue ((transfer_at (joint_inside.before_agent 0).port.shape (joint_inside.before_agent 0).port.commands.signals (takes (joint_inside.before_agent 0).port) c).ends || is_raised ((joint_inside.before_agent 0).port.commands.more c))
y_joined c h = each_below (λ c. IsTrue (shows (joint_inside.before_agent 0).port.commands.signals c) → IsTrue ((transfer_at (joint_inside.before_agent 0).port.shape (joint_inside.before_agent 0).port.commands.signals (takes (joint_inside.before_agent 0).port) c).ends || is_raised ((joint_inside.before_agent 0).port.commands.more c))) 6 c ((((((tt, λ s. cc), λ s. cc), λ s. cc), λ s. cc), λ s. cc), λ s. cc) h

y_legal : AreLegalAt (joint_inside.before_agent 0).port 6
y_legal = record {
  legal = record {
    one_kind = y_kind;
    held = λ c low held. y_held c (omega arith) held;
    least = λ c _ _ _. omega arith;
    most = λ c _ _ _. omega arith;
    finished = y_finished;
  };
  tag = λ c low held. y_tag c (omega arith) held;
  more = λ c _ _. refl;
  joined = y_joined;
}

p0_single : (c : ℕ) → c < 6 → IsTrue (shows (host_port 0).commands.signals c) → is_raised ((host_port 0).commands.more c) ≡ not (transfer_at (host_port 0).shape (host_port 0).commands.signals (takes (host_port 0)) c).ends
p0_single c h = each_below (λ c. IsTrue (shows (host_port 0).commands.signals c) → is_raised ((host_port 0).commands.more c) ≡ not (transfer_at (host_port 0).shape (host_port 0).commands.signals (takes (host_port 0)) c).ends) 6 c ((((((tt, λ s. refl), λ s. refl), λ s. refl), λ s. refl), λ s. refl), λ s. refl) h

p0_debt : (c : ℕ) → c < 6 → words_owed (host_port 0) (suc c) < length (words_at (host_port 0) c) + 2
p0_debt c h = each_below (λ c. words_owed (host_port 0) (suc c) < length (words_at (host_port 0) c) + 2) 6 c ((((((tt, omega arith), omega arith), omega arith), omega arith), omega arith), omega arith) h

p0_kinds : (c : ℕ) → c < 6 → IsTrue (serves_at (joint_system.agent 0) (host_port 0) c)
p0_kinds c h = each_below (λ c. IsTrue (serves_at (joint_system.agent 0) (host_port 0) c)) 6 c ((((((tt, refl), refl), refl), refl), refl), refl) h

host0_in_order : (c : ℕ) → c < 7 → IsPrefix (sent_of (shown_at (host_port 0) c)) (sent_by (host_transfers joint_system joint_run 0 c))
host0_in_order c h = each_below (λ c. IsPrefix (sent_of (shown_at (host_port 0) c)) (sent_by (host_transfers joint_system joint_run 0 c))) 7 c (((((((tt, record { rest = _; joins = refl }), record { rest = _; joins = refl }), record { rest = _; joins = refl }), record { rest = _; joins = refl }), record { rest = _; joins = refl }), record { rest = _; joins = refl }), record { rest = _; joins = refl }) h

host0_held : (c : ℕ) → c < 7 → length (host_accepted joint_system joint_run 0 c) ≤ length (taken_at (host_port 0) c) + 0
host0_held c h = each_below (λ c. length (host_accepted joint_system joint_run 0 c) ≤ length (taken_at (host_port 0) c) + 0) 7 c (((((((tt, omega arith), omega arith), omega arith), omega arith), omega arith), omega arith), omega arith) h

host0_bounded : (c : ℕ) → c < 6 → unanswered (joint_system.host 0).shape (joint_run.at_host 0).signals (host_accepts (joint_run.at_host 0)) (length (given (joint_system.host 0) (joint_run.at_host 0) (suc c))) (suc c) ≤ 16
host0_bounded c h = each_below (λ c. unanswered (joint_system.host 0).shape (joint_run.at_host 0).signals (host_accepts (joint_run.at_host 0)) (length (given (joint_system.host 0) (joint_run.at_host 0) (suc c))) (suc c) ≤ 16) 6 c ((((((tt, omega arith), omega arith), omega arith), omega arith), omega arith), omega arith) h

host0_owed : (c : ℕ) → c < 6 → words_before (host_port 0).answers.valid (suc c) ≤ words_owed (host_port 0) c
host0_owed c h = each_below (λ c. words_before (host_port 0).answers.valid (suc c) ≤ words_owed (host_port 0) c) 6 c ((((((tt, omega arith), omega arith), omega arith), omega arith), omega arith), omega arith) h

host0_later : (c : ℕ) → c < 6 → words_before (joint_run.at_host 0).readdatavalid (suc c) ≤ words_asked (joint_system.host 0).shape (joint_run.at_host 0).signals (host_accepts (joint_run.at_host 0)) c
host0_later c h = each_below (λ c. words_before (joint_run.at_host 0).readdatavalid (suc c) ≤ words_asked (joint_system.host 0).shape (joint_run.at_host 0).signals (host_accepts (joint_run.at_host 0)) c) 6 c ((((((tt, omega arith), omega arith), omega arith), omega arith), omega arith), omega arith) h

host0_line : IsHostLine AreZero joint_system joint_run 0 0 2 (host_port 0) 6
host0_line = record {
  commands = λ c low legal owed. record {
    in_order = λ k less. host0_in_order k (omega arith);
    held = λ k less. host0_held k (omega arith);
    legal = legal_at_before (host_port 0) c 6 low p0_legal;
  };
  single = λ c low legal owed k less. p0_single k (omega arith);
  debt = λ c low legal owed k less. p0_debt k (omega arith);
  answers = λ c low legal owed. record {
    gives = λ k less. refl;
    word = λ k less valid. refl;
    proper = record {
      bounded = λ k less. host0_bounded k (omega arith);
      later = λ valid k less. host0_later k (omega arith);
    };
    responds = λ k less. refl;
  };
}

route0_order : (c : ℕ) → c < 7 → IsPrefix (items_among false ((port_flow (target_of joint_system 0) (host_port 0)).shown c)) (items_among false ((placed_flow joint_system 0 0 (host_port 0)).shown (c - 0)))
route0_order c h = each_below (λ c. IsPrefix (items_among false ((port_flow (target_of joint_system 0) (host_port 0)).shown c)) (items_among false ((placed_flow joint_system 0 0 (host_port 0)).shown (c - 0)))) 7 c (((((((tt, record { rest = _; joins = refl }), record { rest = _; joins = refl }), record { rest = _; joins = refl }), record { rest = _; joins = refl }), record { rest = _; joins = refl }), record { rest = _; joins = refl }), record { rest = _; joins = refl }) h

route0_beats : (c : ℕ) → c < 7 → beats_of 0 ((port_flow (target_of joint_system 0) (host_port 0)).shown c) ≤ 1 * beats_of 0 ((placed_flow joint_system 0 0 (host_port 0)).shown c)
route0_beats c h = each_below (λ c. beats_of 0 ((port_flow (target_of joint_system 0) (host_port 0)).shown c) ≤ 1 * beats_of 0 ((placed_flow joint_system 0 0 (host_port 0)).shown c)) 7 c (((((((tt, omega arith), omega arith), omega arith), omega arith), omega arith), omega arith), omega arith) h

route0_held : (c : ℕ) → c < 7 → unreached (sizes_of ((placed_flow joint_system 0 0 (host_port 0)).taken c)) (total (sizes_of ((port_flow (target_of joint_system 0) (host_port 0)).taken c))) ≤ 0
route0_held c h = each_below (λ c. unreached (sizes_of ((placed_flow joint_system 0 0 (host_port 0)).taken c)) (total (sizes_of ((port_flow (target_of joint_system 0) (host_port 0)).taken c))) ≤ 0) 7 c (((((((tt, omega arith), omega arith), omega arith), omega arith), omega arith), omega arith), omega arith) h

route0_within : (c : ℕ) → c < 7 → AreWithin (sizes_of ((port_flow (target_of joint_system 0) (host_port 0)).shown c)) (sizes_of ((placed_flow joint_system 0 0 (host_port 0)).shown c))
route0_within c h = each_below (λ c. AreWithin (sizes_of ((port_flow (target_of joint_system 0) (host_port 0)).shown c)) (sizes_of ((placed_flow joint_system 0 0 (host_port 0)).shown c))) 7 c (((((((tt, all_placed), placed (omega arith) all_placed), placed (omega arith) all_placed), placed (omega arith) all_placed), placed (omega arith) all_placed), placed (omega arith) all_placed), placed (omega arith) all_placed) h

route0_carries : (end : ℕ) → end ≤ 6 → Carries 0 0 0 1 (placed_flow joint_system 0 0 (host_port 0)) (port_flow (target_of joint_system 0) (host_port 0)) end
route0_carries end low = record {
  in_order = λ k less. route0_order k (omega arith);
  beats = λ k less. route0_beats k (omega arith);
  held = λ k less. route0_held k (omega arith);
  within = λ k less. route0_within k (omega arith);
}

arbiter0_order : (c : ℕ) → c < 7 → IsPrefix (items_among false ((tagged_flow 0 (target_of joint_system 0) (joint_inside.after_arbiter 0).port).shown c)) (items_among false ((port_flow (target_of joint_system 0) (host_port 0)).shown (c - 0)))
arbiter0_order c h = each_below (λ c. IsPrefix (items_among false ((tagged_flow 0 (target_of joint_system 0) (joint_inside.after_arbiter 0).port).shown c)) (items_among false ((port_flow (target_of joint_system 0) (host_port 0)).shown (c - 0)))) 7 c (((((((tt, record { rest = _; joins = refl }), record { rest = _; joins = refl }), record { rest = _; joins = refl }), record { rest = _; joins = refl }), record { rest = _; joins = refl }), record { rest = _; joins = refl }), record { rest = _; joins = refl }) h

arbiter0_beats : (c : ℕ) → c < 7 → beats_of 0 ((tagged_flow 0 (target_of joint_system 0) (joint_inside.after_arbiter 0).port).shown c) ≤ 1 * beats_of 0 ((port_flow (target_of joint_system 0) (host_port 0)).shown c)
arbiter0_beats c h = each_below (λ c. beats_of 0 ((tagged_flow 0 (target_of joint_system 0) (joint_inside.after_arbiter 0).port).shown c) ≤ 1 * beats_of 0 ((port_flow (target_of joint_system 0) (host_port 0)).shown c)) 7 c (((((((tt, omega arith), omega arith), omega arith), omega arith), omega arith), omega arith), omega arith) h

arbiter0_held : (c : ℕ) → c < 7 → unreached (sizes_of ((port_flow (target_of joint_system 0) (host_port 0)).taken c)) (total (sizes_of ((tagged_flow 0 (target_of joint_system 0) (joint_inside.after_arbiter 0).port).taken c))) ≤ 0
arbiter0_held c h = each_below (λ c. unreached (sizes_of ((port_flow (target_of joint_system 0) (host_port 0)).taken c)) (total (sizes_of ((tagged_flow 0 (target_of joint_system 0) (joint_inside.after_arbiter 0).port).taken c))) ≤ 0) 7 c (((((((tt, omega arith), omega arith), omega arith), omega arith), omega arith), omega arith), omega arith) h

arbiter0_within : (c : ℕ) → c < 7 → AreWithin (sizes_of ((tagged_flow 0 (target_of joint_system 0) (joint_inside.after_arbiter 0).port).shown c)) (sizes_of ((port_flow (target_of joint_system 0) (host_port 0)).shown c))
arbiter0_within c h = each_below (λ c. AreWithin (sizes_of ((tagged_flow 0 (target_of joint_system 0) (joint_inside.after_arbiter 0).port).shown c)) (sizes_of ((port_flow (target_of joint_system 0) (host_port 0)).shown c))) 7 c (((((((tt, all_placed), placed (omega arith) all_placed), placed (omega arith) all_placed), placed (omega arith) all_placed), placed (omega arith) all_placed), placed (omega arith) all_placed), placed (omega arith) all_placed) h

arbiter0_carries : (end : ℕ) → end ≤ 6 → Carries 0 0 0 1 (port_flow (target_of joint_system 0) (host_port 0)) (tagged_flow 0 (target_of joint_system 0) (joint_inside.after_arbiter 0).port) end
arbiter0_carries end low = record {
  in_order = λ k less. arbiter0_order k (omega arith);
  beats = λ k less. arbiter0_beats k (omega arith);
  held = λ k less. arbiter0_held k (omega arith);
  within = λ k less. arbiter0_within k (omega arith);
}

route0_answered : (c : ℕ) → c < 6 → IsTrue (is_raised ((host_port 0).answers.valid c)) → IsRouted joint_system 0 (host_port 0) (λ a. (host_port 0)) c (length (words_at (host_port 0) c)) (record { word = (host_port 0).answers.word c; code = (host_port 0).answers.code c }) (slice_get (asked_at joint_system 0 (host_port 0) (suc c)) (length (words_at (host_port 0) c)))
route0_answered c h = each_below (λ c. IsTrue (is_raised ((host_port 0).answers.valid c)) → IsRouted joint_system 0 (host_port 0) (λ a. (host_port 0)) c (length (words_at (host_port 0) c)) (record { word = (host_port 0).answers.word c; code = (host_port 0).answers.code c }) (slice_get (asked_at joint_system 0 (host_port 0) (suc c)) (length (words_at (host_port 0) c)))) 6 c ((((((tt, λ v. cc), λ v. cc), λ v. cc), λ v. cc), λ v. cc), λ v. cc) h

route0_default : (c : ℕ) → c < 6 → IsTrue (is_raised ((host_port 0).answers.valid c)) → HasDefaultCode ((host_port 0).answers.code c) (slice_get (asked_at joint_system 0 (host_port 0) (suc c)) (length (words_at (host_port 0) c)))
route0_default c h = each_below (λ c. IsTrue (is_raised ((host_port 0).answers.valid c)) → HasDefaultCode ((host_port 0).answers.code c) (slice_get (asked_at joint_system 0 (host_port 0) (suc c)) (length (words_at (host_port 0) c)))) 6 c ((((((tt, λ v. cc), λ v. cc), λ v. cc), λ v. cc), λ v. cc), λ v. cc) h

route0_codes : (c : ℕ) → c < 7 → IsPrefix (worded (placed_blocks joint_system 0 0 (host_port 0) c)) (worded (blocks_at (target_of joint_system 0) (host_port 0) c))
route0_codes c h = each_below (λ c. IsPrefix (worded (placed_blocks joint_system 0 0 (host_port 0) c)) (worded (blocks_at (target_of joint_system 0) (host_port 0) c))) 7 c (((((((tt, record { rest = _; joins = refl }), record { rest = _; joins = refl }), record { rest = _; joins = refl }), record { rest = _; joins = refl }), record { rest = _; joins = refl }), record { rest = _; joins = refl }), record { rest = _; joins = refl }) h

asked0 : (c : ℕ) → c < 6 → length (asked_at joint_system 0 (host_port 0) (suc c)) ≤ 1
asked0 c h = each_below (λ c. length (asked_at joint_system 0 (host_port 0) (suc c)) ≤ 1) 6 c ((((((tt, omega arith), omega arith), omega arith), omega arith), omega arith), omega arith) h

other0 : (c : ℕ) → c < 6 → MatchOption (slice_get (asked_at joint_system 0 (host_port 0) (suc c)) 0) ⊤ (λ q. IsTrue (not (is_agent 0 q.place))) → 0 < length (asked_at joint_system 0 (host_port 0) (suc c)) → ⊥
other0 c h = each_below (λ c. MatchOption (slice_get (asked_at joint_system 0 (host_port 0) (suc c)) 0) ⊤ (λ q. IsTrue (not (is_agent 0 q.place))) → 0 < length (asked_at joint_system 0 (host_port 0) (suc c)) → ⊥) 6 c ((((((tt, λ o less. omega (arith, less)), λ o less. omega (arith, less)), λ o less. omega (arith, less)), λ o less. omega (arith, less)), λ o less. omega (arith, less)), λ o less. omega (arith, less)) h

route0_line : IsRouteLine AreZero joint_system 0 0 2 (host_port 0) (λ a. (host_port 0)) 6
route0_line = record {
  commands = λ c low legal single debt owed. record {
    carries = λ a there. each_below (λ a. Carries 0 0 0 1 (placed_flow joint_system 0 a (host_port 0)) (port_flow (target_of joint_system a) (host_port 0)) c) 1 a (tt, route0_carries c low) there;
    legal = λ a there. legal_at_before (host_port 0) c 6 low p0_legal;
    lanes = λ a there above k less. refl;
    tag = λ a k there less. refl;
    joined = λ a k there less shown. refl;
    kinds = λ a there k less. p0_kinds k (omega arith);
  };
  answers = λ c low legal single debt owed. record {
    answered = λ k less valid. route0_answered k (omega arith) valid;
    limited = λ a k number there less few other late. each_below (λ a. MatchOption (slice_get (asked_at joint_system 0 (host_port 0) (suc k)) number) ⊤ (λ q. IsTrue (not (is_agent a q.place))) → number < length (words_at (host_port 0) (suc k))) 1 a (
      tt,
      λ other. each_below (λ number. MatchOption (slice_get (asked_at joint_system 0 (host_port 0) (suc k)) number) ⊤ (λ q. IsTrue (not (is_agent 0 q.place))) → number < length (asked_at joint_system 0 (host_port 0) (suc k)) → number < length (words_at (host_port 0) (suc k))) 1 number
          (tt, λ other some. absurd (other0 k (omega arith) other some)) (let bound = asked0 k (omega arith) in omega (arith, bound, few)) other few,
    ) there other;
    codes = λ told a k there less. each_below (λ a. IsPrefix (worded (placed_blocks joint_system 0 a (host_port 0) k)) (worded (blocks_at (target_of joint_system a) (host_port 0) k))) 1 a (tt, route0_codes k (omega arith)) there;
    default_code = λ told k less valid. route0_default k (omega arith) valid;
    owed = λ k less. host0_owed k (omega arith);
  };
}

arbiter0_bytes : (c : ℕ) → c < 7 → IsPrefix (bytes_of (answers_at (target_of joint_system 0) (host_port 0) c)) (bytes_of (answers_with 0 (target_of joint_system 0) (joint_inside.after_arbiter 0) c))
arbiter0_bytes c h = each_below (λ c. IsPrefix (bytes_of (answers_at (target_of joint_system 0) (host_port 0) c)) (bytes_of (answers_with 0 (target_of joint_system 0) (joint_inside.after_arbiter 0) c))) 7 c (((((((tt, record { rest = _; joins = refl }), record { rest = _; joins = refl }), record { rest = _; joins = refl }), record { rest = _; joins = refl }), record { rest = _; joins = refl }), record { rest = _; joins = refl }), record { rest = _; joins = refl }) h

arbiter0_codes : (c : ℕ) → c < 7 → IsPrefix (codes_of (answers_at (target_of joint_system 0) (host_port 0) c)) (codes_of (answers_with 0 (target_of joint_system 0) (joint_inside.after_arbiter 0) c))
arbiter0_codes c h = each_below (λ c. IsPrefix (codes_of (answers_at (target_of joint_system 0) (host_port 0) c)) (codes_of (answers_with 0 (target_of joint_system 0) (joint_inside.after_arbiter 0) c))) 7 c (((((((tt, record { rest = _; joins = refl }), record { rest = _; joins = refl }), record { rest = _; joins = refl }), record { rest = _; joins = refl }), record { rest = _; joins = refl }), record { rest = _; joins = refl }), record { rest = _; joins = refl }) h

pipe0_held : (c : ℕ) → c < 7 → unreached (sizes_of ((tagged_flow 0 (target_of joint_system 0) (joint_inside.after_arbiter 0).port).taken c)) (total (sizes_of ((tagged_flow 0 (target_of joint_system 0) (joint_inside.before_agent 0).port).taken c))) ≤ 1
pipe0_held c h = each_below (λ c. unreached (sizes_of ((tagged_flow 0 (target_of joint_system 0) (joint_inside.after_arbiter 0).port).taken c)) (total (sizes_of ((tagged_flow 0 (target_of joint_system 0) (joint_inside.before_agent 0).port).taken c))) ≤ 1) 7 c (((((((tt, omega arith), omega arith), omega arith), omega arith), omega arith), omega arith), omega arith) h

pipe0_delayed : (c : ℕ) → c < 7 → words_with 0 (joint_inside.after_arbiter 0) c ≡ words_with 0 (joint_inside.before_agent 0) (c - 1)
pipe0_delayed c h = each_below (λ c. words_with 0 (joint_inside.after_arbiter 0) c ≡ words_with 0 (joint_inside.before_agent 0) (c - 1)) 7 c (((((((tt, refl), refl), refl), refl), refl), refl), refl) h

agent0_beats : (c : ℕ) → c < 7 → length (filter (λ b. nat_eq b.tag 0) (beats_taken joint_system joint_run 0 c)) ≤ beats_of 0 ((tagged_flow 0 (target_of joint_system 0) (joint_inside.before_agent 0).port).shown c)
agent0_beats c h = each_below (λ c. length (filter (λ b. nat_eq b.tag 0) (beats_taken joint_system joint_run 0 c)) ≤ beats_of 0 ((tagged_flow 0 (target_of joint_system 0) (joint_inside.before_agent 0).port).shown c)) 7 c (((((((tt, omega arith), omega arith), omega arith), omega arith), omega arith), omega arith), omega arith) h

agent0_held : (c : ℕ) → c < 7 → unreached (sizes_of ((tagged_flow 0 (target_of joint_system 0) (joint_inside.before_agent 0).port).taken c)) (length (of_host 0 (taken joint_system joint_run 0 c))) ≤ 0
agent0_held c h = each_below (λ c. unreached (sizes_of ((tagged_flow 0 (target_of joint_system 0) (joint_inside.before_agent 0).port).taken c)) (length (of_host 0 (taken joint_system joint_run 0 c))) ≤ 0) 7 c (((((((tt, omega arith), omega arith), omega arith), omega arith), omega arith), omega arith), omega arith) h

agent0_bytes : (c : ℕ) → c < 7 → IsPrefix (bytes_of (answers_with 0 (target_of joint_system 0) (joint_inside.before_agent 0) c)) (bytes_of (answers_to 0 (answers joint_system joint_run 0 c)))
agent0_bytes c h = each_below (λ c. IsPrefix (bytes_of (answers_with 0 (target_of joint_system 0) (joint_inside.before_agent 0) c)) (bytes_of (answers_to 0 (answers joint_system joint_run 0 c)))) 7 c (((((((tt, record { rest = _; joins = refl }), record { rest = _; joins = refl }), record { rest = _; joins = refl }), record { rest = _; joins = refl }), record { rest = _; joins = refl }), record { rest = _; joins = refl }), record { rest = _; joins = refl }) h

agent0_codes : (c : ℕ) → c < 7 → IsPrefix (codes_of (answers_with 0 (target_of joint_system 0) (joint_inside.before_agent 0) c)) (codes_of (answers_to 0 (answers joint_system joint_run 0 c)))
agent0_codes c h = each_below (λ c. IsPrefix (codes_of (answers_with 0 (target_of joint_system 0) (joint_inside.before_agent 0) c)) (codes_of (answers_to 0 (answers joint_system joint_run 0 c)))) 7 c (((((((tt, record { rest = _; joins = refl }), record { rest = _; joins = refl }), record { rest = _; joins = refl }), record { rest = _; joins = refl }), record { rest = _; joins = refl }), record { rest = _; joins = refl }), record { rest = _; joins = refl }) h

agent0_owed : (c : ℕ) → c < 6 → length (words_with 0 (joint_inside.before_agent 0) (suc c)) ≤ length (read_beats (with_tag 0 (taken_at (joint_inside.before_agent 0).port c)))
agent0_owed c h = each_below (λ c. length (words_with 0 (joint_inside.before_agent 0) (suc c)) ≤ length (read_beats (with_tag 0 (taken_at (joint_inside.before_agent 0).port c)))) 6 c ((((((tt, omega arith), omega arith), omega arith), omega arith), omega arith), omega arith) h

p1_single : (c : ℕ) → c < 6 → IsTrue (shows (host_port 1).commands.signals c) → is_raised ((host_port 1).commands.more c) ≡ not (transfer_at (host_port 1).shape (host_port 1).commands.signals (takes (host_port 1)) c).ends
p1_single c h = each_below (λ c. IsTrue (shows (host_port 1).commands.signals c) → is_raised ((host_port 1).commands.more c) ≡ not (transfer_at (host_port 1).shape (host_port 1).commands.signals (takes (host_port 1)) c).ends) 6 c ((((((tt, λ s. refl), λ s. refl), λ s. refl), λ s. refl), λ s. refl), λ s. refl) h

p1_debt : (c : ℕ) → c < 6 → words_owed (host_port 1) (suc c) < length (words_at (host_port 1) c) + 2
p1_debt c h = each_below (λ c. words_owed (host_port 1) (suc c) < length (words_at (host_port 1) c) + 2) 6 c ((((((tt, omega arith), omega arith), omega arith), omega arith), omega arith), omega arith) h

p1_kinds : (c : ℕ) → c < 6 → IsTrue (serves_at (joint_system.agent 0) (host_port 1) c)
p1_kinds c h = each_below (λ c. IsTrue (serves_at (joint_system.agent 0) (host_port 1) c)) 6 c ((((((tt, refl), refl), refl), refl), refl), refl) h

host1_in_order : (c : ℕ) → c < 7 → IsPrefix (sent_of (shown_at (host_port 1) c)) (sent_by (host_transfers joint_system joint_run 1 c))
host1_in_order c h = each_below (λ c. IsPrefix (sent_of (shown_at (host_port 1) c)) (sent_by (host_transfers joint_system joint_run 1 c))) 7 c (((((((tt, record { rest = _; joins = refl }), record { rest = _; joins = refl }), record { rest = _; joins = refl }), record { rest = _; joins = refl }), record { rest = _; joins = refl }), record { rest = _; joins = refl }), record { rest = _; joins = refl }) h

host1_held : (c : ℕ) → c < 7 → length (host_accepted joint_system joint_run 1 c) ≤ length (taken_at (host_port 1) c) + 0
host1_held c h = each_below (λ c. length (host_accepted joint_system joint_run 1 c) ≤ length (taken_at (host_port 1) c) + 0) 7 c (((((((tt, omega arith), omega arith), omega arith), omega arith), omega arith), omega arith), omega arith) h

host1_bounded : (c : ℕ) → c < 6 → unanswered (joint_system.host 1).shape (joint_run.at_host 1).signals (host_accepts (joint_run.at_host 1)) (length (given (joint_system.host 1) (joint_run.at_host 1) (suc c))) (suc c) ≤ 16
host1_bounded c h = each_below (λ c. unanswered (joint_system.host 1).shape (joint_run.at_host 1).signals (host_accepts (joint_run.at_host 1)) (length (given (joint_system.host 1) (joint_run.at_host 1) (suc c))) (suc c) ≤ 16) 6 c ((((((tt, omega arith), omega arith), omega arith), omega arith), omega arith), omega arith) h

host1_owed : (c : ℕ) → c < 6 → words_before (host_port 1).answers.valid (suc c) ≤ words_owed (host_port 1) c
host1_owed c h = each_below (λ c. words_before (host_port 1).answers.valid (suc c) ≤ words_owed (host_port 1) c) 6 c ((((((tt, omega arith), omega arith), omega arith), omega arith), omega arith), omega arith) h

host1_later : (c : ℕ) → c < 6 → words_before (joint_run.at_host 1).readdatavalid (suc c) ≤ words_asked (joint_system.host 1).shape (joint_run.at_host 1).signals (host_accepts (joint_run.at_host 1)) c
host1_later c h = each_below (λ c. words_before (joint_run.at_host 1).readdatavalid (suc c) ≤ words_asked (joint_system.host 1).shape (joint_run.at_host 1).signals (host_accepts (joint_run.at_host 1)) c) 6 c ((((((tt, omega arith), omega arith), omega arith), omega arith), omega arith), omega arith) h

host1_line : IsHostLine AreZero joint_system joint_run 1 0 2 (host_port 1) 6
host1_line = record {
  commands = λ c low legal owed. record {
    in_order = λ k less. host1_in_order k (omega arith);
    held = λ k less. host1_held k (omega arith);
    legal = legal_at_before (host_port 1) c 6 low p1_legal;
  };
  single = λ c low legal owed k less. p1_single k (omega arith);
  debt = λ c low legal owed k less. p1_debt k (omega arith);
  answers = λ c low legal owed. record {
    gives = λ k less. refl;
    word = λ k less valid. refl;
    proper = record {
      bounded = λ k less. host1_bounded k (omega arith);
      later = λ valid k less. host1_later k (omega arith);
    };
    responds = λ k less. refl;
  };
}

route1_order : (c : ℕ) → c < 7 → IsPrefix (items_among false ((port_flow (target_of joint_system 0) (host_port 1)).shown c)) (items_among false ((placed_flow joint_system 1 0 (host_port 1)).shown (c - 0)))
route1_order c h = each_below (λ c. IsPrefix (items_among false ((port_flow (target_of joint_system 0) (host_port 1)).shown c)) (items_among false ((placed_flow joint_system 1 0 (host_port 1)).shown (c - 0)))) 7 c (((((((tt, record { rest = _; joins = refl }), record { rest = _; joins = refl }), record { rest = _; joins = refl }), record { rest = _; joins = refl }), record { rest = _; joins = refl }), record { rest = _; joins = refl }), record { rest = _; joins = refl }) h

route1_beats : (c : ℕ) → c < 7 → beats_of 1 ((port_flow (target_of joint_system 0) (host_port 1)).shown c) ≤ 1 * beats_of 1 ((placed_flow joint_system 1 0 (host_port 1)).shown c)
route1_beats c h = each_below (λ c. beats_of 1 ((port_flow (target_of joint_system 0) (host_port 1)).shown c) ≤ 1 * beats_of 1 ((placed_flow joint_system 1 0 (host_port 1)).shown c)) 7 c (((((((tt, omega arith), omega arith), omega arith), omega arith), omega arith), omega arith), omega arith) h

route1_held : (c : ℕ) → c < 7 → unreached (sizes_of ((placed_flow joint_system 1 0 (host_port 1)).taken c)) (total (sizes_of ((port_flow (target_of joint_system 0) (host_port 1)).taken c))) ≤ 0
route1_held c h = each_below (λ c. unreached (sizes_of ((placed_flow joint_system 1 0 (host_port 1)).taken c)) (total (sizes_of ((port_flow (target_of joint_system 0) (host_port 1)).taken c))) ≤ 0) 7 c (((((((tt, omega arith), omega arith), omega arith), omega arith), omega arith), omega arith), omega arith) h

route1_within : (c : ℕ) → c < 7 → AreWithin (sizes_of ((port_flow (target_of joint_system 0) (host_port 1)).shown c)) (sizes_of ((placed_flow joint_system 1 0 (host_port 1)).shown c))
route1_within c h = each_below (λ c. AreWithin (sizes_of ((port_flow (target_of joint_system 0) (host_port 1)).shown c)) (sizes_of ((placed_flow joint_system 1 0 (host_port 1)).shown c))) 7 c (((((((tt, all_placed), placed (omega arith) all_placed), placed (omega arith) all_placed), placed (omega arith) all_placed), placed (omega arith) all_placed), placed (omega arith) all_placed), placed (omega arith) all_placed) h

route1_carries : (end : ℕ) → end ≤ 6 → Carries 1 0 0 1 (placed_flow joint_system 1 0 (host_port 1)) (port_flow (target_of joint_system 0) (host_port 1)) end
route1_carries end low = record {
  in_order = λ k less. route1_order k (omega arith);
  beats = λ k less. route1_beats k (omega arith);
  held = λ k less. route1_held k (omega arith);
  within = λ k less. route1_within k (omega arith);
}

arbiter1_order : (c : ℕ) → c < 7 → IsPrefix (items_among false ((tagged_flow 1 (target_of joint_system 0) (joint_inside.after_arbiter 0).port).shown c)) (items_among false ((port_flow (target_of joint_system 0) (host_port 1)).shown (c - 0)))
arbiter1_order c h = each_below (λ c. IsPrefix (items_among false ((tagged_flow 1 (target_of joint_system 0) (joint_inside.after_arbiter 0).port).shown c)) (items_among false ((port_flow (target_of joint_system 0) (host_port 1)).shown (c - 0)))) 7 c (((((((tt, record { rest = _; joins = refl }), record { rest = _; joins = refl }), record { rest = _; joins = refl }), record { rest = _; joins = refl }), record { rest = _; joins = refl }), record { rest = _; joins = refl }), record { rest = _; joins = refl }) h

arbiter1_beats : (c : ℕ) → c < 7 → beats_of 1 ((tagged_flow 1 (target_of joint_system 0) (joint_inside.after_arbiter 0).port).shown c) ≤ 1 * beats_of 1 ((port_flow (target_of joint_system 0) (host_port 1)).shown c)
arbiter1_beats c h = each_below (λ c. beats_of 1 ((tagged_flow 1 (target_of joint_system 0) (joint_inside.after_arbiter 0).port).shown c) ≤ 1 * beats_of 1 ((port_flow (target_of joint_system 0) (host_port 1)).shown c)) 7 c (((((((tt, omega arith), omega arith), omega arith), omega arith), omega arith), omega arith), omega arith) h

arbiter1_held : (c : ℕ) → c < 7 → unreached (sizes_of ((port_flow (target_of joint_system 0) (host_port 1)).taken c)) (total (sizes_of ((tagged_flow 1 (target_of joint_system 0) (joint_inside.after_arbiter 0).port).taken c))) ≤ 0
arbiter1_held c h = each_below (λ c. unreached (sizes_of ((port_flow (target_of joint_system 0) (host_port 1)).taken c)) (total (sizes_of ((tagged_flow 1 (target_of joint_system 0) (joint_inside.after_arbiter 0).port).taken c))) ≤ 0) 7 c (((((((tt, omega arith), omega arith), omega arith), omega arith), omega arith), omega arith), omega arith) h

arbiter1_within : (c : ℕ) → c < 7 → AreWithin (sizes_of ((tagged_flow 1 (target_of joint_system 0) (joint_inside.after_arbiter 0).port).shown c)) (sizes_of ((port_flow (target_of joint_system 0) (host_port 1)).shown c))
arbiter1_within c h = each_below (λ c. AreWithin (sizes_of ((tagged_flow 1 (target_of joint_system 0) (joint_inside.after_arbiter 0).port).shown c)) (sizes_of ((port_flow (target_of joint_system 0) (host_port 1)).shown c))) 7 c (((((((tt, all_placed), all_placed), placed (omega arith) all_placed), placed (omega arith) all_placed), placed (omega arith) all_placed), placed (omega arith) all_placed), placed (omega arith) all_placed) h

arbiter1_carries : (end : ℕ) → end ≤ 6 → Carries 1 0 0 1 (port_flow (target_of joint_system 0) (host_port 1)) (tagged_flow 1 (target_of joint_system 0) (joint_inside.after_arbiter 0).port) end
arbiter1_carries end low = record {
  in_order = λ k less. arbiter1_order k (omega arith);
  beats = λ k less. arbiter1_beats k (omega arith);
  held = λ k less. arbiter1_held k (omega arith);
  within = λ k less. arbiter1_within k (omega arith);
}

route1_answered : (c : ℕ) → c < 6 → IsTrue (is_raised ((host_port 1).answers.valid c)) → IsRouted joint_system 1 (host_port 1) (λ a. (host_port 1)) c (length (words_at (host_port 1) c)) (record { word = (host_port 1).answers.word c; code = (host_port 1).answers.code c }) (slice_get (asked_at joint_system 1 (host_port 1) (suc c)) (length (words_at (host_port 1) c)))
route1_answered c h = each_below (λ c. IsTrue (is_raised ((host_port 1).answers.valid c)) → IsRouted joint_system 1 (host_port 1) (λ a. (host_port 1)) c (length (words_at (host_port 1) c)) (record { word = (host_port 1).answers.word c; code = (host_port 1).answers.code c }) (slice_get (asked_at joint_system 1 (host_port 1) (suc c)) (length (words_at (host_port 1) c)))) 6 c ((((((tt, λ v. cc), λ v. cc), λ v. cc), λ v. cc), λ v. record { enough = omega arith; bytes = refl }), λ v. cc) h

route1_default : (c : ℕ) → c < 6 → IsTrue (is_raised ((host_port 1).answers.valid c)) → HasDefaultCode ((host_port 1).answers.code c) (slice_get (asked_at joint_system 1 (host_port 1) (suc c)) (length (words_at (host_port 1) c)))
route1_default c h = each_below (λ c. IsTrue (is_raised ((host_port 1).answers.valid c)) → HasDefaultCode ((host_port 1).answers.code c) (slice_get (asked_at joint_system 1 (host_port 1) (suc c)) (length (words_at (host_port 1) c)))) 6 c ((((((tt, λ v. cc), λ v. cc), λ v. cc), λ v. cc), λ v. tt), λ v. cc) h

route1_codes : (c : ℕ) → c < 7 → IsPrefix (worded (placed_blocks joint_system 1 0 (host_port 1) c)) (worded (blocks_at (target_of joint_system 0) (host_port 1) c))
route1_codes c h = each_below (λ c. IsPrefix (worded (placed_blocks joint_system 1 0 (host_port 1) c)) (worded (blocks_at (target_of joint_system 0) (host_port 1) c))) 7 c (((((((tt, record { rest = _; joins = refl }), record { rest = _; joins = refl }), record { rest = _; joins = refl }), record { rest = _; joins = refl }), record { rest = _; joins = refl }), record { rest = _; joins = refl }), record { rest = _; joins = refl }) h

asked1 : (c : ℕ) → c < 6 → length (asked_at joint_system 1 (host_port 1) (suc c)) ≤ 1
asked1 c h = each_below (λ c. length (asked_at joint_system 1 (host_port 1) (suc c)) ≤ 1) 6 c ((((((tt, omega arith), omega arith), omega arith), omega arith), omega arith), omega arith) h

other1 : (c : ℕ) → c < 6 → MatchOption (slice_get (asked_at joint_system 1 (host_port 1) (suc c)) 0) ⊤ (λ q. IsTrue (not (is_agent 0 q.place))) → 0 < length (asked_at joint_system 1 (host_port 1) (suc c)) → ⊥
other1 c h = each_below (λ c. MatchOption (slice_get (asked_at joint_system 1 (host_port 1) (suc c)) 0) ⊤ (λ q. IsTrue (not (is_agent 0 q.place))) → 0 < length (asked_at joint_system 1 (host_port 1) (suc c)) → ⊥) 6 c ((((((tt, λ o less. cc), λ o less. cc), λ o less. cc), λ o less. cc), λ o less. cc), λ o less. cc) h

route1_line : IsRouteLine AreZero joint_system 1 0 2 (host_port 1) (λ a. (host_port 1)) 6
route1_line = record {
  commands = λ c low legal single debt owed. record {
    carries = λ a there. each_below (λ a. Carries 1 0 0 1 (placed_flow joint_system 1 a (host_port 1)) (port_flow (target_of joint_system a) (host_port 1)) c) 1 a (tt, route1_carries c low) there;
    legal = λ a there. legal_at_before (host_port 1) c 6 low p1_legal;
    lanes = λ a there above k less. refl;
    tag = λ a k there less. refl;
    joined = λ a k there less shown. refl;
    kinds = λ a there k less. p1_kinds k (omega arith);
  };
  answers = λ c low legal single debt owed. record {
    answered = λ k less valid. route1_answered k (omega arith) valid;
    limited = λ a k number there less few other late. each_below (λ a. MatchOption (slice_get (asked_at joint_system 1 (host_port 1) (suc k)) number) ⊤ (λ q. IsTrue (not (is_agent a q.place))) → number < length (words_at (host_port 1) (suc k))) 1 a (
      tt,
      λ other. each_below (λ number. MatchOption (slice_get (asked_at joint_system 1 (host_port 1) (suc k)) number) ⊤ (λ q. IsTrue (not (is_agent 0 q.place))) → number < length (asked_at joint_system 1 (host_port 1) (suc k)) → number < length (words_at (host_port 1) (suc k))) 1 number
          (tt, λ other some. absurd (other1 k (omega arith) other some)) (let bound = asked1 k (omega arith) in omega (arith, bound, few)) other few,
    ) there other;
    codes = λ told a k there less. each_below (λ a. IsPrefix (worded (placed_blocks joint_system 1 a (host_port 1) k)) (worded (blocks_at (target_of joint_system a) (host_port 1) k))) 1 a (tt, route1_codes k (omega arith)) there;
    default_code = λ told k less valid. route1_default k (omega arith) valid;
    owed = λ k less. host1_owed k (omega arith);
  };
}

arbiter1_bytes : (c : ℕ) → c < 7 → IsPrefix (bytes_of (answers_at (target_of joint_system 0) (host_port 1) c)) (bytes_of (answers_with 1 (target_of joint_system 0) (joint_inside.after_arbiter 0) c))
arbiter1_bytes c h = each_below (λ c. IsPrefix (bytes_of (answers_at (target_of joint_system 0) (host_port 1) c)) (bytes_of (answers_with 1 (target_of joint_system 0) (joint_inside.after_arbiter 0) c))) 7 c (((((((tt, record { rest = _; joins = refl }), record { rest = _; joins = refl }), record { rest = _; joins = refl }), record { rest = _; joins = refl }), record { rest = _; joins = refl }), record { rest = _; joins = refl }), record { rest = _; joins = refl }) h

arbiter1_codes : (c : ℕ) → c < 7 → IsPrefix (codes_of (answers_at (target_of joint_system 0) (host_port 1) c)) (codes_of (answers_with 1 (target_of joint_system 0) (joint_inside.after_arbiter 0) c))
arbiter1_codes c h = each_below (λ c. IsPrefix (codes_of (answers_at (target_of joint_system 0) (host_port 1) c)) (codes_of (answers_with 1 (target_of joint_system 0) (joint_inside.after_arbiter 0) c))) 7 c (((((((tt, record { rest = _; joins = refl }), record { rest = _; joins = refl }), record { rest = _; joins = refl }), record { rest = _; joins = refl }), record { rest = _; joins = refl }), record { rest = _; joins = refl }), record { rest = _; joins = refl }) h

pipe1_held : (c : ℕ) → c < 7 → unreached (sizes_of ((tagged_flow 1 (target_of joint_system 0) (joint_inside.after_arbiter 0).port).taken c)) (total (sizes_of ((tagged_flow 1 (target_of joint_system 0) (joint_inside.before_agent 0).port).taken c))) ≤ 1
pipe1_held c h = each_below (λ c. unreached (sizes_of ((tagged_flow 1 (target_of joint_system 0) (joint_inside.after_arbiter 0).port).taken c)) (total (sizes_of ((tagged_flow 1 (target_of joint_system 0) (joint_inside.before_agent 0).port).taken c))) ≤ 1) 7 c (((((((tt, omega arith), omega arith), omega arith), omega arith), omega arith), omega arith), omega arith) h

pipe1_delayed : (c : ℕ) → c < 7 → words_with 1 (joint_inside.after_arbiter 0) c ≡ words_with 1 (joint_inside.before_agent 0) (c - 1)
pipe1_delayed c h = each_below (λ c. words_with 1 (joint_inside.after_arbiter 0) c ≡ words_with 1 (joint_inside.before_agent 0) (c - 1)) 7 c (((((((tt, refl), refl), refl), refl), refl), refl), refl) h

agent1_beats : (c : ℕ) → c < 7 → length (filter (λ b. nat_eq b.tag 1) (beats_taken joint_system joint_run 0 c)) ≤ beats_of 1 ((tagged_flow 1 (target_of joint_system 0) (joint_inside.before_agent 0).port).shown c)
agent1_beats c h = each_below (λ c. length (filter (λ b. nat_eq b.tag 1) (beats_taken joint_system joint_run 0 c)) ≤ beats_of 1 ((tagged_flow 1 (target_of joint_system 0) (joint_inside.before_agent 0).port).shown c)) 7 c (((((((tt, omega arith), omega arith), omega arith), omega arith), omega arith), omega arith), omega arith) h

agent1_held : (c : ℕ) → c < 7 → unreached (sizes_of ((tagged_flow 1 (target_of joint_system 0) (joint_inside.before_agent 0).port).taken c)) (length (of_host 1 (taken joint_system joint_run 0 c))) ≤ 0
agent1_held c h = each_below (λ c. unreached (sizes_of ((tagged_flow 1 (target_of joint_system 0) (joint_inside.before_agent 0).port).taken c)) (length (of_host 1 (taken joint_system joint_run 0 c))) ≤ 0) 7 c (((((((tt, omega arith), omega arith), omega arith), omega arith), omega arith), omega arith), omega arith) h

agent1_bytes : (c : ℕ) → c < 7 → IsPrefix (bytes_of (answers_with 1 (target_of joint_system 0) (joint_inside.before_agent 0) c)) (bytes_of (answers_to 1 (answers joint_system joint_run 0 c)))
agent1_bytes c h = each_below (λ c. IsPrefix (bytes_of (answers_with 1 (target_of joint_system 0) (joint_inside.before_agent 0) c)) (bytes_of (answers_to 1 (answers joint_system joint_run 0 c)))) 7 c (((((((tt, record { rest = _; joins = refl }), record { rest = _; joins = refl }), record { rest = _; joins = refl }), record { rest = _; joins = refl }), record { rest = _; joins = refl }), record { rest = _; joins = refl }), record { rest = _; joins = refl }) h

agent1_codes : (c : ℕ) → c < 7 → IsPrefix (codes_of (answers_with 1 (target_of joint_system 0) (joint_inside.before_agent 0) c)) (codes_of (answers_to 1 (answers joint_system joint_run 0 c)))
agent1_codes c h = each_below (λ c. IsPrefix (codes_of (answers_with 1 (target_of joint_system 0) (joint_inside.before_agent 0) c)) (codes_of (answers_to 1 (answers joint_system joint_run 0 c)))) 7 c (((((((tt, record { rest = _; joins = refl }), record { rest = _; joins = refl }), record { rest = _; joins = refl }), record { rest = _; joins = refl }), record { rest = _; joins = refl }), record { rest = _; joins = refl }), record { rest = _; joins = refl }) h

agent1_owed : (c : ℕ) → c < 6 → length (words_with 1 (joint_inside.before_agent 0) (suc c)) ≤ length (read_beats (with_tag 1 (taken_at (joint_inside.before_agent 0).port c)))
agent1_owed c h = each_below (λ c. length (words_with 1 (joint_inside.before_agent 0) (suc c)) ≤ length (read_beats (with_tag 1 (taken_at (joint_inside.before_agent 0).port c)))) 6 c ((((((tt, omega arith), omega arith), omega arith), omega arith), omega arith), omega arith) h

x_whole : (c : ℕ) → c < 7 → IsTrue (are_whole (shown_at (joint_inside.after_arbiter 0).port c))
x_whole c h = each_below (λ c. IsTrue (are_whole (shown_at (joint_inside.after_arbiter 0).port c))) 7 c (((((((tt, refl), refl), refl), refl), refl), refl), refl) h

x_tags : (c : ℕ) → c < 6 → IsTrue (shows (joint_inside.after_arbiter 0).port.commands.signals c) → IsTrue (is_joined joint_system 0 ((joint_inside.after_arbiter 0).port.commands.tag c))
x_tags c h = each_below (λ c. IsTrue (shows (joint_inside.after_arbiter 0).port.commands.signals c) → IsTrue (is_joined joint_system 0 ((joint_inside.after_arbiter 0).port.commands.tag c))) 6 c ((((((tt, λ s. refl), λ s. refl), λ s. refl), λ s. refl), λ s. refl), λ s. refl) h

x_kinds : (c : ℕ) → c < 6 → IsTrue (serves_at (joint_system.agent 0) (joint_inside.after_arbiter 0).port c)
x_kinds c h = each_below (λ c. IsTrue (serves_at (joint_system.agent 0) (joint_inside.after_arbiter 0).port c)) 6 c ((((((tt, refl), refl), refl), refl), refl), refl) h

-- the stage makes no tags and no kinds
pipe_hands_on : (c : ℕ) → c ≤ 6 → HandsOn (joint_inside.after_arbiter 0).port (joint_inside.before_agent 0).port c
pipe_hands_on c low = record {
  tags = λ may bears k less shown. each_below (λ k. k < c → IsTrue (shows (joint_inside.before_agent 0).port.commands.signals k) → IsTrue (may ((joint_inside.before_agent 0).port.commands.tag k))) 6 k
      ((((((tt, λ less shown. absurd cc), λ less shown. bears 0 (omega arith) refl), λ less shown. bears 1 (omega arith) refl), λ less shown. absurd cc), λ less shown. absurd cc), λ less shown. absurd cc) (omega arith) less shown;
  kinds = λ side serves k less. each_below (λ k. k < c → IsTrue (serves_at side (joint_inside.before_agent 0).port k)) 6 k
      ((((((tt, λ less. refl), λ less. serves 0 (omega arith)), λ less. serves 1 (omega arith)), λ less. refl), λ less. refl), λ less. refl) (omega arith) less;
}

pipe_shown : (c : ℕ) → c < 7 → IsPrefix (shown_at (joint_inside.before_agent 0).port c) (shown_at (joint_inside.after_arbiter 0).port (c - 1))
pipe_shown c h = each_below (λ c. IsPrefix (shown_at (joint_inside.before_agent 0).port c) (shown_at (joint_inside.after_arbiter 0).port (c - 1))) 7 c (((((((tt, record { rest = _; joins = refl }), record { rest = _; joins = refl }), record { rest = _; joins = refl }), record { rest = _; joins = refl }), record { rest = _; joins = refl }), record { rest = _; joins = refl }), record { rest = _; joins = refl }) h

pipe_taken : (c : ℕ) → c < 7 → IsPrefix (taken_at (joint_inside.before_agent 0).port c) (taken_at (joint_inside.after_arbiter 0).port (c - 1))
pipe_taken c h = each_below (λ c. IsPrefix (taken_at (joint_inside.before_agent 0).port c) (taken_at (joint_inside.after_arbiter 0).port (c - 1))) 7 c (((((((tt, record { rest = _; joins = refl }), record { rest = _; joins = refl }), record { rest = _; joins = refl }), record { rest = _; joins = refl }), record { rest = _; joins = refl }), record { rest = _; joins = refl }), record { rest = _; joins = refl }) h

agent_order : (c : ℕ) → c < 7 → IsPrefix (taken joint_system joint_run 0 c) (tagged_operations (groups_of (target_of joint_system 0) (joint_inside.before_agent 0).shape (shown_at (joint_inside.before_agent 0).port c)))
agent_order c h = each_below (λ c. IsPrefix (taken joint_system joint_run 0 c) (tagged_operations (groups_of (target_of joint_system 0) (joint_inside.before_agent 0).shape (shown_at (joint_inside.before_agent 0).port c)))) 7 c (((((((tt, record { rest = _; joins = refl }), record { rest = _; joins = refl }), record { rest = _; joins = refl }), record { rest = _; joins = refl }), record { rest = _; joins = refl }), record { rest = _; joins = refl }), record { rest = _; joins = refl }) h

agent_tags : (c : ℕ) → c < 6 → IsTrue (agent_accepts (joint_system.agent 0) (joint_run.at_agent 0) c) → IsTrue (is_joined joint_system 0 ((joint_run.at_agent 0).grant c))
agent_tags c h = each_below (λ c. IsTrue (agent_accepts (joint_system.agent 0) (joint_run.at_agent 0) c) → IsTrue (is_joined joint_system 0 ((joint_run.at_agent 0).grant c))) 6 c ((((((tt, λ a. refl), λ a. refl), λ a. refl), λ a. refl), λ a. refl), λ a. refl) h

agent_bounded : (c : ℕ) → c < 6 → unanswered (joint_system.agent 0).shape (joint_run.at_agent 0).signals (agent_accepts (joint_system.agent 0) (joint_run.at_agent 0)) (words_before (joint_run.at_agent 0).readdatavalid (suc c)) (suc c) ≤ 4
agent_bounded c h = each_below (λ c. unanswered (joint_system.agent 0).shape (joint_run.at_agent 0).signals (agent_accepts (joint_system.agent 0) (joint_run.at_agent 0)) (words_before (joint_run.at_agent 0).readdatavalid (suc c)) (suc c) ≤ 4) 6 c ((((((tt, omega arith), omega arith), omega arith), omega arith), omega arith), omega arith) h

agent_owed : (c : ℕ) → c < 6 → words_before (joint_run.at_agent 0).readdatavalid (suc c) ≤ words_asked (joint_system.agent 0).shape (joint_run.at_agent 0).signals (agent_accepts (joint_system.agent 0) (joint_run.at_agent 0)) c
agent_owed c h = each_below (λ c. words_before (joint_run.at_agent 0).readdatavalid (suc c) ≤ words_asked (joint_system.agent 0).shape (joint_run.at_agent 0).signals (agent_accepts (joint_system.agent 0) (joint_run.at_agent 0)) c) 6 c ((((((tt, omega arith), omega arith), omega arith), omega arith), omega arith), omega arith) h

arbiter_line : IsArbiterLine AreZero joint_system 0 0 (λ h. host_port h) (joint_inside.after_arbiter 0) 6
arbiter_line = record {
  commands = λ c low fit owed. record {
    carries = λ h is. each_below (λ h. Carries h 0 0 1 (port_flow (target_of joint_system 0) (host_port h)) (tagged_flow h (target_of joint_system 0) (joint_inside.after_arbiter 0).port) c) 2 h ((tt, arbiter0_carries c low), arbiter1_carries c low) is;
    whole = λ k less. x_whole k (omega arith);
    fit = record { legal = legal_at_before (joint_inside.after_arbiter 0).port c 6 low x_legal; lanes = λ k less. refl; tags = λ k less shown. x_tags k (omega arith) shown; kinds = λ k less. x_kinds k (omega arith) };
  };
  answers = λ c low fit owed. record {
    bytes = λ h k is less. each_below (λ h. IsPrefix (bytes_of (answers_at (target_of joint_system 0) (host_port h) k)) (bytes_of (answers_with h (target_of joint_system 0) (joint_inside.after_arbiter 0) k))) 2 h ((tt, arbiter0_bytes k (omega arith)), arbiter1_bytes k (omega arith)) is;
    codes = λ told h k is less. each_below (λ h. IsPrefix (codes_of (answers_at (target_of joint_system 0) (host_port h) k)) (codes_of (answers_with h (target_of joint_system 0) (joint_inside.after_arbiter 0) k))) 2 h ((tt, arbiter0_codes k (omega arith)), arbiter1_codes k (omega arith)) is;
    owed = λ h is. each_below (λ h. AnswersAreOwed (host_port h) c) 2 h ((tt, (λ k less. host0_owed k (omega arith))), (λ k less. host1_owed k (omega arith))) is;
  };
}

pipe_line : IsPipeLine joint_system 0 1 1 (joint_inside.after_arbiter 0) (joint_inside.before_agent 0) 6
pipe_line = record {
  same = refl;
  commands = λ c low legal owed. record {
    shown = λ k less. pipe_shown k (omega arith);
    taken = λ k less. pipe_taken k (omega arith);
    held = λ h k is less. each_below (λ h. unreached (sizes_of ((tagged_flow h (target_of joint_system 0) (joint_inside.after_arbiter 0).port).taken k)) (total (sizes_of ((tagged_flow h (target_of joint_system 0) (joint_inside.before_agent 0).port).taken k))) ≤ 1) 2 h ((tt, pipe0_held k (omega arith)), pipe1_held k (omega arith)) is;
    legal = legal_at_before (joint_inside.before_agent 0).port c 6 low y_legal;
    hands_on = pipe_hands_on c low;
  };
  answers = λ c low legal owed h k is less. each_below (λ h. words_with h (joint_inside.after_arbiter 0) k ≡ words_with h (joint_inside.before_agent 0) (k - 1)) 2 h ((tt, pipe0_delayed k (omega arith)), pipe1_delayed k (omega arith)) is;
}

agent_line : IsAgentLine AreZero joint_system joint_run 0 0 (joint_inside.before_agent 0) 6
agent_line = record {
  commands = λ c low fit owed. record {
    in_order = λ k less. agent_order k (omega arith);
    beats = λ h k is less. each_below (λ h. length (filter (λ b. nat_eq b.tag h) (beats_taken joint_system joint_run 0 k)) ≤ beats_of h ((tagged_flow h (target_of joint_system 0) (joint_inside.before_agent 0).port).shown k)) 2 h ((tt, agent0_beats k (omega arith)), agent1_beats k (omega arith)) is;
    held = λ h k is less. each_below (λ h. unreached (sizes_of ((tagged_flow h (target_of joint_system 0) (joint_inside.before_agent 0).port).taken k)) (length (of_host h (taken joint_system joint_run 0 k))) ≤ 0) 2 h ((tt, agent0_held k (omega arith)), agent1_held k (omega arith)) is;
    tags = λ k less accepts. agent_tags k (omega arith) accepts;
    proper = record {
      legal = (legal_at_before (joint_inside.before_agent 0).port c 6 low y_legal).legal;
      aligned = λ k less shown. refl;
      bounded = λ k less valid. agent_bounded k (omega arith);
    };
  };
  answers = λ c low fit owed. record {
    bytes = λ h k is less. each_below (λ h. IsPrefix (bytes_of (answers_with h (target_of joint_system 0) (joint_inside.before_agent 0) k)) (bytes_of (answers_to h (answers joint_system joint_run 0 k)))) 2 h ((tt, agent0_bytes k (omega arith)), agent1_bytes k (omega arith)) is;
    codes = λ told h k is less. each_below (λ h. IsPrefix (codes_of (answers_with h (target_of joint_system 0) (joint_inside.before_agent 0) k)) (codes_of (answers_to h (answers joint_system joint_run 0 k)))) 2 h ((tt, agent0_codes k (omega arith)), agent1_codes k (omega arith)) is;
    owed = λ h k is less. each_below (λ h. length (words_with h (joint_inside.before_agent 0) (suc k)) ≤ length (read_beats (with_tag h (taken_at (joint_inside.before_agent 0).port k)))) 2 h ((tt, agent0_owed k (omega arith)), agent1_owed k (omega arith)) is;
  };
}

number_of_host : (h : ℕ) → (nat_eq h 0 || (nat_eq h 1 || false)) ≡ true → h < 2
number_of_host h joined = grind (arith, tests, joined)

-- `wire`: a wire is a row of links that holds nothing
pub joint_is_wired : ((target : Target) (port : Port) (end : ℕ) → 0 < port.shape.word_bytes → KeepsRow target 0 port port end) → Wired AreZero joint_system joint_run joint_inside joint_holds 6
joint_is_wired wire = record {
  room = λ h. 2;
  placed = λ h t a is e. let same : 0 ≡ a = cc in omega arith;
  joined = λ a h joined. number_of_host h joined;
  words = λ h a is there. each_below (λ h. pieces (joint_inside.after_route h a).shape (joint_inside.before_arbiter h a).shape ≤ pieces (joint_system.host h).shape (joint_system.agent a).shape) 2 h ((tt, omega arith), omega arith) is;
  few = omega arith;
  host = λ h is. each_below (λ h. IsHostLine AreZero joint_system joint_run h 0 2 (host_port h) 6) 2 h ((tt, host0_line), host1_line) is;
  route = λ h is. each_below (λ h. IsRouteLine AreZero joint_system h 0 2 (host_port h) (λ a. host_port h) 6) 2 h ((tt, route0_line), route1_line) is;
  links = λ h a is there. each_below (λ h. KeepsRow (target_of joint_system a) 0 (host_port h) (host_port h) 6) 2 h ((tt, wire (target_of joint_system a) (host_port 0) 6 (omega arith)), wire (target_of joint_system a) (host_port 1) 6 (omega arith)) is;
  lanes = λ h a is there. made (λ c low legal owed k less. refl);
  arbiter = λ a there. each_below (λ a. IsArbiterLine AreZero joint_system a 0 (λ h. host_port h) (joint_inside.after_arbiter a) 6) 1 a (tt, arbiter_line) there;
  pipe = λ a there. each_below (λ a. IsPipeLine joint_system a 1 1 (joint_inside.after_arbiter a) (joint_inside.before_agent a) 6) 1 a (tt, pipe_line) there;
  agent = λ a there. each_below (λ a. IsAgentLine AreZero joint_system joint_run a 0 (joint_inside.before_agent a) 6) 1 a (tt, agent_line) there;
}

pub joint_is_legal : IsLegalRun joint_system joint_run 6
joint_is_legal = record {
  hosts = λ h is. each_below (λ h. IsLegalHost (joint_system.host h) (joint_run.at_host h) 6) 2 h ((tt, p0_legal.legal), p1_legal.legal) is;
  agents = λ a there. record { owed = λ valid k less. agent_owed k less };
}
