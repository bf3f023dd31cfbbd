-- The small system with a host without readdatavalid keeps every record.
use Rattle.std.proofs.Common.{ℕ, zero, suc, ◌<◌, ◌≤◌, ◌≡◌, ◌&&◌, true, false, not, arith, refl, nat_eq, length, filter, IsTrue, tests, Some}
use Rattle.histories.specs.History.{is_raised, IsPrefix}
use Rattle.histories.specs.Below.{each_below}
use Rattle.memory_runs.specs.Views.{System, Run, levels_at}
use Rattle.memory_runs.specs.Commands.{shows, is_held}
use Rattle.memory_runs.specs.Legal.{IsLegalHost, IsLegalAgent, host_accepts, is_under_way}
use Rattle.memory_runs.specs.Whole.{IsLegalRun}
use Rattle.memory_runs.specs.Order.{is_joined, is_agent, taken, beats_taken, is_read_beat}
use Rattle.memory_machines.specs.Link.{Port, Target, takes, marked_at, shown_at, words_at, AreLegalAt, AnswersAreOwed}
use Rattle.memory_machines.specs.Lines.{target_of, tagged_operations, groups_of}
use Rattle.memory_machines.specs.PartRanks.{has_agent_work, moves_at_agent}
use Rattle.memory_parts.specs.Steps.{words_from_agent, IsArbiterPart, IsAgentPart, IsHostPart, IsRoutePart, place_shown, is_open}
use Rattle.memory_links.specs.Going.{KeepsGoing}
use Rattle.memory_awake.specs.Ways.{tagged}
use Rattle.memory_awake.specs.Slack.{PassesWhileStill}
use Rattle.memory_awake.specs.Approach.{IsApproach, IsAwake}
use Rattle.memory_awake.specs.Front.{IsFront, KeepsWhole, IsDefaultFront, GivesAtOnce}
use Rattle.runs_tests.specs.SmallSystem.{small_standings}
use Rattle.runs_tests.specs.WaitingSystem.{waiting_small, waiting_run, early_run, reads_below, read_behind, waiting_ways, waiting_approach}
use Rattle.runs_tests.proofs.memory.ShortRuns.{legal_by_cycles}

no_true : IsTrue false → ⊥
no_true h = cc

pub five : (P : ℕ → Type 0) → P 0 → P 1 → P 2 → P 3 → P 4 → (c : ℕ) → c < 5 → P c
five P a b d e f c h = each_below P 5 c (((((tt, a), b), d), e), f) h

pub six : (P : ℕ → Type 0) → P 0 → P 1 → P 2 → P 3 → P 4 → P 5 → (c : ℕ) → c ≤ 5 → P c
six P a b d e f g c h = each_below P 6 c ((((((tt, a), b), d), e), f), g) (omega (arith, h))

pub one : (P : ℕ → Type 0) → P 0 → (a : ℕ) → a < 1 → P a
one P x a h = each_below P 1 a (tt, x) h

zero_of : {a : ℕ} → Some 0 ≡ Some a → a < 1
zero_of {a} e = let same : 0 ≡ a = cc in omega (arith, same)

legal_host : IsLegalHost (waiting_small.host 0) (waiting_run.at_host 0) 5
legal_host = record {
  one_kind = five _ refl refl refl refl refl;
  held = λ c h. each_below (λ c. IsTrue (is_held (waiting_run.at_host 0).signals (host_accepts (waiting_run.at_host 0)) c) → levels_at (waiting_run.at_host 0).signals c ≡ levels_at (waiting_run.at_host 0).signals (suc c)) 4 c ((((tt, λ x. refl), λ x. refl), λ x. cc), λ x. refl) (omega (arith, h));
  least = λ c h p f. omega arith;
  most = λ c h p f. omega arith;
  finished = λ c h under. absurd (five (λ c. IsTrue (is_under_way (waiting_small.host 0).shape (waiting_run.at_host 0).signals (host_accepts (waiting_run.at_host 0)) c) → ⊥) (λ x. cc) (λ x. cc) (λ x. cc) (λ x. cc) (λ x. cc) c h under);
}

owed_below : AnswersAreOwed reads_below 5
owed_below = five _ (omega arith) (omega arith) (omega arith) (omega arith) (omega arith)

pub host_part : IsHostPart waiting_small waiting_run 0 reads_below 5
host_part = record {
  legal = legal_host;
  one_word = λ none c h read. refl;
  bytes = refl;
  shown = five _ refl refl refl refl refl;
  accepts = five _ refl refl refl refl refl;
  same = five _ (λ x. refl) (λ x. cc) (λ x. cc) (λ x. refl) (λ x. cc);
  level = λ c h x. refl;
  more = five _ (λ x. refl) (λ x. cc) (λ x. cc) (λ x. refl) (λ x. cc);
  gives = five _ refl refl refl refl refl;
  owed = owed_below;
}

pub early_is_not : IsHostPart waiting_small early_run 0 reads_below 1 → ⊥
early_is_not part = let bad = part.accepts 0 (omega arith) in cc

legal_behind : AreLegalAt (read_behind 0) 5
legal_behind = legal_by_cycles (read_behind 0) 5
    (((((tt, λ x. cc), λ x. cc), λ x. cc), λ x. cc), λ x. cc) (((((tt, refl), refl), refl), refl), refl) (((((tt, omega arith), omega arith), omega arith), omega arith), omega arith) (((((tt, omega arith), omega arith), omega arith), omega arith), omega arith)
    (((((tt, λ x. cc), λ x. cc), λ x. cc), λ x. cc), λ x. cc) (((((tt, λ x. refl), λ x. cc), λ x. cc), λ x. cc), λ x. cc)

owed_behind : AnswersAreOwed (read_behind 0) 5
owed_behind = five _ (omega arith) (omega arith) (omega arith) (omega arith) (omega arith)

pub route_part : IsRoutePart waiting_small 0 reads_below (λ a. read_behind 0) 5
route_part = record {
  places = λ c a h shown place. five (λ c. IsTrue (shows reads_below.commands.signals c) → place_shown waiting_small 0 reads_below c ≡ Some a → a < 1) (λ x e. zero_of e) (λ x e. cc) (λ x e. cc) (λ x e. absurd cc) (λ x e. cc) c h shown place;
  shape = λ a low. refl;
  shown = λ a c low h. one (λ a. (c : ℕ) → c < 5 → shows (read_behind 0).commands.signals c ≡ (shows reads_below.commands.signals c && is_agent a (place_shown waiting_small 0 reads_below c) && is_open waiting_small 0 reads_below (Some a) c)) (five _ refl refl refl refl refl) a low c h;
  accepts = λ a c low h. one (λ a. (c : ℕ) → c < 5 → IsTrue (is_agent a (place_shown waiting_small 0 reads_below c)) → takes reads_below c ≡ takes (read_behind 0) c) (five _ (λ x. refl) (λ x. refl) (λ x. refl) (λ x. cc) (λ x. cc)) a low c h;
  default = five _ (λ e. cc) (λ e. cc) (λ e. cc) (λ e. refl) (λ e. refl);
  same = λ a c low h. five (λ c. IsTrue (shows (read_behind 0).commands.signals c) → (marked_at (read_behind 0) c).transfer ≡ (marked_at reads_below c).transfer) (λ x. refl) (λ x. cc) (λ x. cc) (λ x. cc) (λ x. cc) c h;
  level = λ a c low h x. refl;
  more = λ a c low h x. refl;
  words = five _ refl refl refl refl refl;
  owed = λ a low. owed_behind;
  legal = λ a low. legal_behind;
}

-- no port past the host shows anything
shown_by_host : (h c : ℕ) → c < 5 → IsTrue (shows (read_behind h).commands.signals c) → (h < 1) × IsTrue (is_joined waiting_small 0 h) × ((read_behind h).commands.tag c ≡ h)
shown_by_host zero c h shown = (omega arith, refl, refl)
shown_by_host (suc n) c h shown =
    let e : nat_eq (suc n) 0 ≡ false = grind (arith, tests) in
    let none : IsTrue false = rw e at shown in
    absurd (no_true none)

arbiter_part : IsArbiterPart waiting_small 0 read_behind (tagged waiting_ways 0) 5
arbiter_part = record {
  legal = one (λ h. AreLegalAt (read_behind h) 5) legal_behind;
  joined = λ h c fit shown. let s = shown_by_host h c fit shown in (s.0, s.1);
  own_tag = λ h c fit shown. (shown_by_host h c fit shown).2;
  turns = five _ (refl, refl) refl refl refl refl;
  tagged = λ h c low fit. one (λ h. IsTrue (takes (read_behind h) c) → 0 ≡ h) (λ x. refl) h low;
  taken = λ h c low fit. one (λ h. 0 ≡ h → takes (read_behind h) c ≡ takes (read_behind 0) c) (λ x. refl) h low;
  same = λ h c low fit. one (λ h. 0 ≡ h → IsTrue (takes (read_behind 0) c) → marked_at (read_behind h) c ≡ marked_at (read_behind 0) c) (λ x y. refl) h low;
  words = λ h c low fit. one (λ h. is_raised ((read_behind h).answers.valid c) ≡ (is_raised ((read_behind 0).answers.valid c) && nat_eq 0 h)) (five (λ c. is_raised ((read_behind 0).answers.valid c) ≡ (is_raised ((read_behind 0).answers.valid c) && true)) refl refl refl refl refl c fit) h low;
  in_order = five _ (record { rest = _; joins = refl }) (record { rest = _; joins = refl }) (record { rest = _; joins = refl }) (record { rest = _; joins = refl }) (record { rest = _; joins = refl });
}

agent_part : IsAgentPart waiting_small waiting_run 0 (tagged waiting_ways 0) (λ c. 0) 0 5
agent_part = record {
  legal = legal_behind;
  falls = record { bounded = λ c h. omega arith; falls = λ c h w m e. absurd (idle c h w m); stays = λ c h w m. omega arith };
  accepted = five _ refl refl refl refl refl;
  words = five _ (λ x. refl) (λ x. refl) (λ x. cc) (λ x. cc) (λ x. cc);
  given = six (λ c. length (words_at (read_behind 0) c) ≤ words_from_agent waiting_small waiting_run 0 c) (omega arith) (omega arith) (omega arith) (omega arith) (omega arith) (omega arith);
  come = five _ (λ x. omega arith) (λ x. omega arith) (λ x. omega arith) (λ x. omega arith) (λ x. omega arith);
  asked = five (λ c. words_from_agent waiting_small waiting_run 0 c ≤ length (filter is_read_beat (beats_taken waiting_small waiting_run 0 c))) (omega arith) (omega arith) (omega arith) (omega arith) (omega arith);
}
  where
    idle : (c : ℕ) → c < 5 → IsTrue (has_agent_work waiting_small waiting_run 0 (tagged waiting_ways 0) c) → IsTrue (not (moves_at_agent waiting_small waiting_run 0 (tagged waiting_ways 0) c)) → ⊥
    idle = five _ (λ w m. cc) (λ w m. cc) (λ w m. cc) (λ w m. cc) (λ w m. cc)

pub record Laws : Type 0 where
  pub front : (system : System) (run : Run) (host agent : ℕ) (middle : Port) (down : ℕ → Port) (end : ℕ) → agent < system.agents → IsHostPart system run host middle end → IsRoutePart system host middle down end → IsFront system run host agent (down agent) end
  pub gives : (system : System) (run : Run) (host agent : ℕ) (middle : Port) (down : ℕ → Port) (end : ℕ) → agent < system.agents → IsHostPart system run host middle end → IsRoutePart system host middle down end → GivesAtOnce system run host agent (down agent) end
  pub default : (system : System) (run : Run) (host : ℕ) (middle : Port) (down : ℕ → Port) (end : ℕ) → IsHostPart system run host middle end → IsRoutePart system host middle down end → IsDefaultFront system run host end
  pub going : (target : Target) (port : Port) (end : ℕ) → AreLegalAt port end → KeepsGoing target port port (λ c. 0) 0 end
  pub pass : (top port : Port) (end : ℕ) → PassesWhileStill (record { hold = 0; kept = 0 }) top port port end

pub keeps_whole : Laws → KeepsWhole waiting_small waiting_run 0 waiting_ways small_standings 5
keeps_whole laws = record {
  awake = record {
    agent_part = agent_part;
    lower = λ i h. absurd (omega (arith, h));
    arbiter = arbiter_part;
    upper = λ h i low fit. one (λ h. KeepsGoing (target_of waiting_small 0) (read_behind h) (read_behind h) (λ c. 0) 0 5) (laws.going (target_of waiting_small 0) (read_behind 0) 5 legal_behind) h low;
  };
  front = one (λ h. IsFront waiting_small waiting_run h 0 (read_behind h) 5) (laws.front waiting_small waiting_run 0 0 reads_below (λ a. read_behind 0) 5 (omega arith) host_part route_part);
  gives = one (λ h. GivesAtOnce waiting_small waiting_run h 0 (read_behind h) 5) (laws.gives waiting_small waiting_run 0 0 reads_below (λ a. read_behind 0) 5 (omega arith) host_part route_part);
  links = λ h low. omega arith;
  in_order = six (λ c. IsPrefix (taken waiting_small waiting_run 0 c) (tagged_operations (groups_of (target_of waiting_small 0) (read_behind 0).shape (shown_at (read_behind 0) c))))
      (record { rest = _; joins = refl }) (record { rest = _; joins = refl }) (record { rest = _; joins = refl }) (record { rest = _; joins = refl }) (record { rest = _; joins = refl }) (record { rest = _; joins = refl });
  words = one (λ h. (read_behind h).shape.word_bytes ≡ (read_behind 0).shape.word_bytes) refl;
}

legal_run : IsLegalRun waiting_small waiting_run 5
legal_run = record {
  hosts = one (λ h. IsLegalHost (waiting_small.host h) (waiting_run.at_host h) 5) legal_host;
  agents = one (λ a. IsLegalAgent (waiting_small.agent a) (waiting_run.at_agent a) 5) (record { owed = λ has. five _ (omega arith) (omega arith) (omega arith) (omega arith) (omega arith) });
}

pub is_awake : Laws → IsAwake waiting_small waiting_run waiting_approach 5
is_awake laws = record {
  legal = legal_run;
  agents = one (λ a. IsApproach waiting_small waiting_run a (waiting_approach a) 5)
      (record {
        shares = (omega arith, tt);
        parts = keeps_whole laws;
        pass = record { lower = λ i h. absurd (omega (arith, h)); upper = λ h i low fit. laws.pass (read_behind h) (read_behind h) 5 };
        modest = record {
          stages = refl;
          few_stages = omega arith;
          few_hosts = omega arith;
          wait = omega arith;
          lower = λ i h. absurd (omega (arith, h));
          upper = λ h low. omega arith;
          toll = λ h low. omega arith;
        };
      });
  default = one (λ h. IsDefaultFront waiting_small waiting_run h 5) (laws.default waiting_small waiting_run 0 reads_below (λ a. read_behind 0) 5 host_part route_part);
}
