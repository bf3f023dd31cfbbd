-- The right small system keeps every record.
use Rattle.std.proofs.Common.{ℕ, zero, suc, ◌<◌, ◌≤◌, ◌≡◌, ◌^◌, ◌-◌, Bool, true, false, not, ◌||◌, ◌&&◌, arith, refl, nat_eq, length, filter, IsTrue, IsFalse, tests, Some}
use Rattle.histories.specs.History.{is_raised, IsPrefix}
use Rattle.histories.specs.Below.{each_below}
use Rattle.memory_runs.specs.Views.{System, Run, levels_at}
use Rattle.memory_runs.specs.Commands.{shows, is_held, transfer_at}
use Rattle.memory_runs.specs.Legal.{IsLegalHost, IsLegalAgent, is_under_way}
use Rattle.memory_runs.specs.Whole.{IsLegalRun}
use Rattle.memory_runs.specs.Order.{is_joined, is_agent}
use Rattle.memory_machines.specs.Link.{Target, Port, takes, marked_at, shown_at, words_at, AreLegalAt, AnswersAreOwed}
use Rattle.memory_machines.specs.Lines.{target_of, tagged_operations, groups_of}
use Rattle.memory_machines.specs.Rank.{moves_commands, is_excused}
use Rattle.runs_tests.proofs.memory.ShortRuns.{legal_by_cycles}
use Rattle.memory_parts.specs.Steps.{words_from_agent, IsArbiterPart, IsAgentPart, IsHostPart, IsRoutePart, place_shown, is_open}
use Rattle.memory_links.specs.Going.{has_link_work, KeepsGoing}
use Rattle.runs_tests.specs.SmallSystem.{small_system, small_run, middle, down, below, small_ways, small_standings, small_approach}
use Rattle.memory_runs.specs.Order.{taken, beats_taken, is_read_beat}
use Rattle.memory_machines.specs.PartRanks.{has_agent_work, moves_at_agent}
use Rattle.memory_awake.specs.Ways.{tagged, KeepsAwake}
use Rattle.memory_awake.specs.Slack.{PassesWhileStill}
use Rattle.memory_awake.specs.Approach.{IsAwake}
use Rattle.memory_awake.specs.Front.{IsFront, KeepsWhole, IsDefaultFront, GivesAtOnce}

no_true : IsTrue false → ⊥
no_true h = cc

four : (P : ℕ → Type 0) → P 0 → P 1 → P 2 → P 3 → (c : ℕ) → c < 4 → P c
four P a b d e c h = each_below P 4 c ((((tt, a), b), d), e) h

legal_if : (port : Port) →
    ((c : ℕ) → c < 4 → IsTrue (not (is_raised (port.commands.read c) && is_raised (port.commands.write c)))) →
    ((c : ℕ) → c < 4 → IsTrue (is_held port.commands.signals (takes port) c) → (levels_at port.commands.signals c ≡ levels_at port.commands.signals (suc c)) × (port.commands.tag c ≡ port.commands.tag (suc c)) × (port.commands.more c ≡ port.commands.more (suc c))) →
    ((c : ℕ) → c < 4 → (1 ≤ port.commands.count c) × (port.commands.count c ≤ 2 ^ (port.shape.burst_bits - 1))) →
    ((c : ℕ) → c < 4 → IsTrue (is_under_way port.shape port.commands.signals (takes port) c) → IsFalse (is_raised (port.commands.read c))) →
    ((c : ℕ) → c < 4 → IsTrue (shows port.commands.signals c) → IsTrue ((transfer_at port.shape port.commands.signals (takes port) c).ends || is_raised (port.commands.more c))) → AreLegalAt port 4
legal_if port one held counts finished joined = record {
  legal = record {
    one_kind = one;
    held = λ c h is. (held c (omega (arith, h)) is).0;
    least = λ c h p f. (counts c h).0;
    most = λ c h p f. (counts c h).1;
    finished = finished;
  };
  tag = λ c h is. (held c (omega (arith, h)) is).1;
  more = λ c h is. (held c (omega (arith, h)) is).2;
  joined = joined;
}

legal_middle_zero : AreLegalAt (middle 0) 4
legal_middle_zero = legal_by_cycles (middle 0) 4 ((((tt, (λ x. cc)), (λ x. cc)), (λ x. cc)), (λ x. cc)) ((((tt, refl), refl), refl), refl) ((((tt, (omega arith)), (omega arith)), (omega arith)), (omega arith)) ((((tt, (omega arith)), (omega arith)), (omega arith)), (omega arith)) ((((tt, (λ x. cc)), (λ x. cc)), (λ x. cc)), (λ x. cc)) ((((tt, (λ x. refl)), (λ x. refl)), (λ x. refl)), (λ x. cc))

legal_middle_one : AreLegalAt (middle 1) 4
legal_middle_one = legal_if (middle 1) (four _ refl refl refl refl) (four _ (λ x. (refl, refl, refl)) (λ x. cc) (λ x. cc) (λ x. cc)) (four _ (omega arith, omega arith) (omega arith, omega arith) (omega arith, omega arith) (omega arith, omega arith)) (four _ (λ x. cc) (λ x. cc) (λ x. cc) (λ x. cc)) (four _ (λ x. refl) (λ x. refl) (λ x. cc) (λ x. cc))

pub host_zero : IsHostPart small_system small_run 0 (middle 0) 4
host_zero = record {
  one_word = λ none. let bad : ⊥ = cc in absurd bad;
  legal = legal_middle_zero.legal;
  bytes = refl;
  shown = four _ refl refl refl refl;
  accepts = four _ refl refl refl refl;
  same = λ c h x. refl;
  level = λ c h x. refl;
  more = four _ (λ x. refl) (λ x. refl) (λ x. refl) (λ x. cc);
  gives = λ c h. refl;
  owed = four _ (omega arith) (omega arith) (omega arith) (omega arith);
}

pub host_one : IsHostPart small_system small_run 1 (middle 1) 4
host_one = record {
  one_word = λ none. let bad : ⊥ = cc in absurd bad;
  legal = legal_middle_one.legal;
  bytes = refl;
  shown = four _ refl refl refl refl;
  accepts = four _ refl refl refl refl;
  same = λ c h x. refl;
  level = λ c h x. refl;
  more = four _ (λ x. refl) (λ x. refl) (λ x. cc) (λ x. cc);
  gives = λ c h. refl;
  owed = four _ (omega arith) (omega arith) (omega arith) (omega arith);
}

two : (P : ℕ → Type 0) → P 0 → P 1 → (a : ℕ) → a < 2 → P a
two P x y a h = each_below P 2 a ((tt, x), y) h

legal_down : (h a : ℕ) → h < 2 → a < 2 → AreLegalAt (down h a) 4
legal_down h a low low' = two (λ h. (a : ℕ) → a < 2 → AreLegalAt (down h a) 4)
    (two (λ a. AreLegalAt (down 0 a) 4)
    (legal_by_cycles (down 0 0) 4 ((((tt, (λ x. cc)), (λ x. cc)), (λ x. cc)), (λ x. cc)) ((((tt, refl), refl), refl), refl) ((((tt, (omega arith)), (omega arith)), (omega arith)), (omega arith)) ((((tt, (omega arith)), (omega arith)), (omega arith)), (omega arith)) ((((tt, (λ x. cc)), (λ x. cc)), (λ x. cc)), (λ x. cc)) ((((tt, (λ x. refl)), (λ x. cc)), (λ x. cc)), (λ x. cc)))
    (legal_by_cycles (down 0 1) 4 ((((tt, (λ x. cc)), (λ x. cc)), (λ x. cc)), (λ x. cc)) ((((tt, refl), refl), refl), refl) ((((tt, (omega arith)), (omega arith)), (omega arith)), (omega arith)) ((((tt, (omega arith)), (omega arith)), (omega arith)), (omega arith)) ((((tt, (λ x. cc)), (λ x. cc)), (λ x. cc)), (λ x. cc)) ((((tt, (λ x. cc)), (λ x. refl)), (λ x. cc)), (λ x. cc))))
    (two (λ a. AreLegalAt (down 1 a) 4)
    legal_middle_one
    (legal_by_cycles (down 1 1) 4 ((((tt, (λ x. cc)), (λ x. cc)), (λ x. cc)), (λ x. cc)) ((((tt, refl), refl), refl), refl) ((((tt, (omega arith)), (omega arith)), (omega arith)), (omega arith)) ((((tt, (omega arith)), (omega arith)), (omega arith)), (omega arith)) ((((tt, (λ x. cc)), (λ x. cc)), (λ x. cc)), (λ x. cc)) ((((tt, (λ x. cc)), (λ x. cc)), (λ x. cc)), (λ x. cc))))
    h low a low'

legal_below : (a : ℕ) → a < 2 → AreLegalAt (below a) 4
legal_below a low = two (λ a. AreLegalAt (below a) 4)
    (legal_by_cycles (below 0) 4 ((((tt, (λ x. cc)), (λ x. cc)), (λ x. cc)), (λ x. cc)) ((((tt, refl), refl), refl), refl) ((((tt, (omega arith)), (omega arith)), (omega arith)), (omega arith)) ((((tt, (omega arith)), (omega arith)), (omega arith)), (omega arith)) ((((tt, (λ x. cc)), (λ x. cc)), (λ x. cc)), (λ x. cc)) ((((tt, (λ x. refl)), (λ x. refl)), (λ x. cc)), (λ x. cc)))
    (legal_by_cycles (below 1) 4 ((((tt, (λ x. cc)), (λ x. cc)), (λ x. cc)), (λ x. cc)) ((((tt, refl), refl), refl), refl) ((((tt, (omega arith)), (omega arith)), (omega arith)), (omega arith)) ((((tt, (omega arith)), (omega arith)), (omega arith)), (omega arith)) ((((tt, (λ x. cc)), (λ x. cc)), (λ x. cc)), (λ x. cc)) ((((tt, (λ x. cc)), (λ x. refl)), (λ x. cc)), (λ x. cc)))
    a low

owed_down : (h a : ℕ) → h < 2 → a < 2 → AnswersAreOwed (down h a) 4
owed_down h a low low' = two (λ h. (a : ℕ) → a < 2 → AnswersAreOwed (down h a) 4)
    (two (λ a. AnswersAreOwed (down 0 a) 4) (four _ (omega arith) (omega arith) (omega arith) (omega arith)) (four _ (omega arith) (omega arith) (omega arith) (omega arith)))
    (two (λ a. AnswersAreOwed (down 1 a) 4) (four _ (omega arith) (omega arith) (omega arith) (omega arith)) (four _ (omega arith) (omega arith) (omega arith) (omega arith)))
    h low a low'

pub route_zero : IsRoutePart small_system 0 (middle 0) (down 0) 4
route_zero = record {
  places = λ c a h shown place. four (λ c. IsTrue (shows (middle 0).commands.signals c) → place_shown small_system 0 (middle 0) c ≡ Some a → a < 2) (λ x e. zero_of e) (λ x e. one_of e) (λ x e. absurd cc) (λ x e. cc) c h shown place;
  shape = λ a low. two (λ a. (down 0 a).shape ≡ (middle 0).shape) refl refl a low;
  shown = λ a c low h. two (λ a. (c : ℕ) → c < 4 → shows (down 0 a).commands.signals c ≡ (shows (middle 0).commands.signals c && is_agent a (place_shown small_system 0 (middle 0) c) && is_open small_system 0 (middle 0) (Some a) c)) (four _ refl refl refl refl) (four _ refl refl refl refl) a low c h;
  accepts = λ a c low h. two (λ a. (c : ℕ) → c < 4 → IsTrue (is_agent a (place_shown small_system 0 (middle 0) c)) → takes (middle 0) c ≡ takes (down 0 a) c) (four _ (λ x. refl) (λ x. cc) (λ x. cc) (λ x. refl)) (four _ (λ x. cc) (λ x. refl) (λ x. cc) (λ x. cc)) a low c h;
  default = four _ (λ e. cc) (λ e. cc) (λ e. refl) (λ e. cc);
  same = λ a c low h. two (λ a. (c : ℕ) → c < 4 → IsTrue (shows (down 0 a).commands.signals c) → (marked_at (down 0 a) c).transfer ≡ (marked_at (middle 0) c).transfer) (four _ (λ x. refl) (λ x. cc) (λ x. cc) (λ x. cc)) (four _ (λ x. cc) (λ x. refl) (λ x. cc) (λ x. cc)) a low c h;
  level = λ a c low h. two (λ a. (c : ℕ) → c < 4 → IsTrue (shows (down 0 a).commands.signals c) → is_raised ((down 0 a).commands.write c) ≡ is_raised ((middle 0).commands.write c)) (four _ (λ x. refl) (λ x. cc) (λ x. cc) (λ x. cc)) (four _ (λ x. cc) (λ x. refl) (λ x. cc) (λ x. cc)) a low c h;
  more = λ a c low h x. two (λ a. (marked_at (down 0 a) c).more ≡ (marked_at (middle 0) c).more) refl refl a low;
  words = four _ refl refl refl refl;
  owed = λ a low. owed_down 0 a (omega arith) low;
  legal = λ a low. legal_down 0 a (omega arith) low;
}
  where
    zero_of : {a : ℕ} → Some 0 ≡ Some a → a < 2
    zero_of {a} e = let same : 0 ≡ a = cc in omega (arith, same)

    one_of : {a : ℕ} → Some 1 ≡ Some a → a < 2
    one_of {a} e = let same : 1 ≡ a = cc in omega (arith, same)

link : (target : Target) (port : Port) → AreLegalAt port 4 → ((c : ℕ) → c < 4 → IsTrue (has_link_work target port port c) → IsTrue (not (moves_commands port port c)) → IsTrue (not (is_excused port port c)) → ⊥) → KeepsGoing target port port (λ c. 0) 0 4
link target port legal acts = record {
  legal = legal;
  legal_down = legal;
  falls = record { bounded = λ c h. omega arith; falls = λ c h w m e. absurd (acts c h w (neither (moves_commands port port c) _ m) e); stays = λ c h w m. omega arith };
  words = λ c h owed. or_right' _ _ owed;
}
  where
    neither : (a b : Bool) → IsTrue (not (a || b)) → IsTrue (not a)
    neither true b h = h
    neither false b h = refl

    or_right' : (a b : Bool) → IsTrue b → IsTrue (a || b)
    or_right' true b h = refl
    or_right' false b h = h

pub links : (h a : ℕ) → h < 2 → a < 2 → KeepsGoing (target_of small_system a) (down h a) (down h a) (λ c. 0) 0 4
links h a low low' = two (λ h. (a : ℕ) → a < 2 → KeepsGoing (target_of small_system a) (down h a) (down h a) (λ c. 0) 0 4)
    (two (λ a. KeepsGoing (target_of small_system a) (down 0 a) (down 0 a) (λ c. 0) 0 4)
    (link (target_of small_system 0) (down 0 0) (legal_down 0 0 (omega arith) (omega arith)) (four _ (λ w m e. cc) (λ w m e. cc) (λ w m e. cc) (λ w m e. cc)))
    (link (target_of small_system 1) (down 0 1) (legal_down 0 1 (omega arith) (omega arith)) (four _ (λ w m e. cc) (λ w m e. cc) (λ w m e. cc) (λ w m e. cc))))
    (two (λ a. KeepsGoing (target_of small_system a) (down 1 a) (down 1 a) (λ c. 0) 0 4)
    (link (target_of small_system 0) (down 1 0) (legal_down 1 0 (omega arith) (omega arith)) (four _ (λ w m e. cc) (λ w m e. cc) (λ w m e. cc) (λ w m e. cc)))
    (link (target_of small_system 1) (down 1 1) (legal_down 1 1 (omega arith) (omega arith)) (four _ (λ w m e. cc) (λ w m e. cc) (λ w m e. cc) (λ w m e. cc))))
    h low a low'

pub route_one : IsRoutePart small_system 1 (middle 1) (down 1) 4
route_one = record {
  places = λ c a h shown place. four (λ c. IsTrue (shows (middle 1).commands.signals c) → place_shown small_system 1 (middle 1) c ≡ Some a → a < 2) (λ x e. zero_of e) (λ x e. zero_of e) (λ x e. cc) (λ x e. cc) c h shown place;
  shape = λ a low. two (λ a. (down 1 a).shape ≡ (middle 1).shape) refl refl a low;
  shown = λ a c low h. two (λ a. (c : ℕ) → c < 4 → shows (down 1 a).commands.signals c ≡ (shows (middle 1).commands.signals c && is_agent a (place_shown small_system 1 (middle 1) c) && is_open small_system 1 (middle 1) (Some a) c)) (four _ refl refl refl refl) (four _ refl refl refl refl) a low c h;
  accepts = λ a c low h. two (λ a. (c : ℕ) → c < 4 → IsTrue (is_agent a (place_shown small_system 1 (middle 1) c)) → takes (middle 1) c ≡ takes (down 1 a) c) (four _ (λ x. refl) (λ x. refl) (λ x. refl) (λ x. refl)) (four _ (λ x. cc) (λ x. cc) (λ x. cc) (λ x. cc)) a low c h;
  default = four _ (λ e. cc) (λ e. cc) (λ e. cc) (λ e. cc);
  same = λ a c low h. two (λ a. (c : ℕ) → c < 4 → IsTrue (shows (down 1 a).commands.signals c) → (marked_at (down 1 a) c).transfer ≡ (marked_at (middle 1) c).transfer) (four _ (λ x. refl) (λ x. refl) (λ x. cc) (λ x. cc)) (four _ (λ x. cc) (λ x. cc) (λ x. cc) (λ x. cc)) a low c h;
  level = λ a c low h. two (λ a. (c : ℕ) → c < 4 → IsTrue (shows (down 1 a).commands.signals c) → is_raised ((down 1 a).commands.write c) ≡ is_raised ((middle 1).commands.write c)) (four _ (λ x. refl) (λ x. refl) (λ x. cc) (λ x. cc)) (four _ (λ x. cc) (λ x. cc) (λ x. cc) (λ x. cc)) a low c h;
  more = λ a c low h x. two (λ a. (marked_at (down 1 a) c).more ≡ (marked_at (middle 1) c).more) refl refl a low;
  words = four _ refl refl refl refl;
  owed = λ a low. owed_down 1 a (omega arith) low;
  legal = λ a low. legal_down 1 a (omega arith) low;
}
  where
    zero_of : {a : ℕ} → Some 0 ≡ Some a → a < 2
    zero_of {a} e = let same : 0 ≡ a = cc in omega (arith, same)

-- what an asker shows is of a host
shown_by : (a : ℕ) → a < 2 → (h c : ℕ) → c < 4 → IsTrue (shows (down h a).commands.signals c) → (h < 2) × IsTrue (is_joined small_system a h) × ((down h a).commands.tag c ≡ h)
shown_by a low zero c h shown = (omega arith, refl, two (λ a. (down 0 a).commands.tag c ≡ 0) refl refl a low)
shown_by a low (suc zero) c h shown = (omega arith, refl, two (λ a. (down 1 a).commands.tag c ≡ 1) refl refl a low)
shown_by a low (suc (suc n)) c h shown =
    let e : nat_eq (suc (suc n)) 0 ≡ false = grind (arith, tests) in
    let f : nat_eq (suc (suc n)) 1 ≡ false = grind (arith, tests) in
    let none : IsTrue false = rw (e, f) at shown in
    absurd (no_true none)

arbiter_zero : IsArbiterPart small_system 0 (λ h. down h 0) (tagged (small_ways 0) 0) 4
arbiter_zero = record {
  legal = λ h low. legal_down h 0 low (omega arith);
  joined = λ h c fit shown. let s = shown_by 0 (omega arith) h c fit shown in (s.0, s.1);
  own_tag = λ h c fit shown. (shown_by 0 (omega arith) h c fit shown).2;
  turns = four _ (refl, refl) (refl, refl) refl refl;
  tagged = λ h c low fit. two (λ h. (c : ℕ) → c < 4 → IsTrue (takes (down h 0) c) → (below 0).commands.tag c ≡ h) (four _ (λ x. refl) (λ x. cc) (λ x. cc) (λ x. cc)) (four _ (λ x. cc) (λ x. refl) (λ x. cc) (λ x. cc)) h low c fit;
  taken = λ h c low fit. two (λ h. (c : ℕ) → c < 4 → (below 0).commands.tag c ≡ h → takes (down h 0) c ≡ takes (below 0) c) (four _ (λ x. refl) (λ x. cc) (λ x. refl) (λ x. refl)) (four _ (λ x. cc) (λ x. refl) (λ x. cc) (λ x. cc)) h low c fit;
  same = λ h c low fit. two (λ h. (c : ℕ) → c < 4 → (below 0).commands.tag c ≡ h → IsTrue (takes (below 0) c) → marked_at (down h 0) c ≡ marked_at (below 0) c) (four _ (λ x y. refl) (λ x y. cc) (λ x y. cc) (λ x y. cc)) (four _ (λ x y. cc) (λ x y. refl) (λ x y. cc) (λ x y. cc)) h low c fit;
  words = λ h c low fit. two (λ h. is_raised ((down h 0).answers.valid c) ≡ (is_raised ((below 0).answers.valid c) && nat_eq 0 h)) refl refl h low;
  in_order = four _ (record { rest = _; joins = refl }) (record { rest = _; joins = refl }) (record { rest = _; joins = refl }) (record { rest = _; joins = refl });
}

arbiter_one : IsArbiterPart small_system 1 (λ h. down h 1) (tagged (small_ways 1) 0) 4
arbiter_one = record {
  legal = λ h low. legal_down h 1 low (omega arith);
  joined = λ h c fit shown. let s = shown_by 1 (omega arith) h c fit shown in (s.0, s.1);
  own_tag = λ h c fit shown. (shown_by 1 (omega arith) h c fit shown).2;
  turns = four _ refl (refl, refl) refl refl;
  tagged = λ h c low fit. two (λ h. (c : ℕ) → c < 4 → IsTrue (takes (down h 1) c) → (below 1).commands.tag c ≡ h) (four _ (λ x. refl) (λ x. refl) (λ x. refl) (λ x. refl)) (four _ (λ x. cc) (λ x. cc) (λ x. cc) (λ x. cc)) h low c fit;
  taken = λ h c low fit. two (λ h. (c : ℕ) → c < 4 → (below 1).commands.tag c ≡ h → takes (down h 1) c ≡ takes (below 1) c) (four _ (λ x. refl) (λ x. refl) (λ x. refl) (λ x. refl)) (four _ (λ x. cc) (λ x. cc) (λ x. cc) (λ x. cc)) h low c fit;
  same = λ h c low fit. two (λ h. (c : ℕ) → c < 4 → (below 1).commands.tag c ≡ h → IsTrue (takes (below 1) c) → marked_at (down h 1) c ≡ marked_at (below 1) c) (four _ (λ x y. cc) (λ x y. refl) (λ x y. cc) (λ x y. cc)) (four _ (λ x y. cc) (λ x y. cc) (λ x y. cc) (λ x y. cc)) h low c fit;
  words = λ h c low fit. two (λ h. (c : ℕ) → c < 4 → is_raised ((down h 1).answers.valid c) ≡ (is_raised ((below 1).answers.valid c) && nat_eq 0 h)) (four _ refl refl refl refl) (four _ refl refl refl refl) h low c fit;
  in_order = four _ (record { rest = _; joins = refl }) (record { rest = _; joins = refl }) (record { rest = _; joins = refl }) (record { rest = _; joins = refl });
}

agent_part : (a : ℕ) → a < 2 → IsAgentPart small_system small_run a (tagged (small_ways a) 0) (λ c. 0) 0 4
agent_part a low = two (λ a. IsAgentPart small_system small_run a (tagged (small_ways a) 0) (λ c. 0) 0 4)
    (record {
      legal = legal_below 0 (omega arith);
      falls = record { bounded = λ c h. omega arith; falls = λ c h w m e. absurd (idle_zero c h w m); stays = λ c h w m. omega arith };
      accepted = four _ refl refl refl refl;
      words = four _ (λ x. cc) (λ x. cc) (λ x. cc) (λ x. cc);
      given = λ c h. given_zero c (omega (arith, h));
      come = four _ (λ x. omega arith) (λ x. omega arith) (λ x. omega arith) (λ x. omega arith);
      asked = λ c h. asked_zero c (omega (arith, h));
    })
    (record {
      legal = legal_below 1 (omega arith);
      falls = record { bounded = λ c h. omega arith; falls = λ c h w m e. absurd (idle_one c h w m); stays = λ c h w m. omega arith };
      accepted = four _ refl refl refl refl;
      words = four _ (λ x. cc) (λ x. refl) (λ x. cc) (λ x. cc);
      given = λ c h. given_one c (omega (arith, h));
      come = four _ (λ x. omega arith) (λ x. omega arith) (λ x. omega arith) (λ x. omega arith);
      asked = λ c h. asked_one c (omega (arith, h));
    })
    a low
  where
    idle_zero : (c : ℕ) → c < 4 → IsTrue (has_agent_work small_system small_run 0 (tagged (small_ways 0) 0) c) → IsTrue (not (moves_at_agent small_system small_run 0 (tagged (small_ways 0) 0) c)) → ⊥
    idle_zero = four _ (λ w m. cc) (λ w m. cc) (λ w m. cc) (λ w m. cc)

    idle_one : (c : ℕ) → c < 4 → IsTrue (has_agent_work small_system small_run 1 (tagged (small_ways 1) 0) c) → IsTrue (not (moves_at_agent small_system small_run 1 (tagged (small_ways 1) 0) c)) → ⊥
    idle_one = four _ (λ w m. cc) (λ w m. cc) (λ w m. cc) (λ w m. cc)

    five : (P : ℕ → Type 0) → P 0 → P 1 → P 2 → P 3 → P 4 → (c : ℕ) → c < 5 → P c
    five P a b d e f c h = each_below P 5 c (((((tt, a), b), d), e), f) h

    given_zero : (c : ℕ) → c < 5 → length (words_at (below 0) c) ≤ words_from_agent small_system small_run 0 c
    given_zero = five _ (omega arith) (omega arith) (omega arith) (omega arith) (omega arith)

    given_one : (c : ℕ) → c < 5 → length (words_at (below 1) c) ≤ words_from_agent small_system small_run 1 c
    given_one = five _ (omega arith) (omega arith) (omega arith) (omega arith) (omega arith)

    asked_zero : (c : ℕ) → c < 5 → words_from_agent small_system small_run 0 c ≤ length (filter is_read_beat (beats_taken small_system small_run 0 c))
    asked_zero = five _ (omega arith) (omega arith) (omega arith) (omega arith) (omega arith)

    asked_one : (c : ℕ) → c < 5 → words_from_agent small_system small_run 1 c ≤ length (filter is_read_beat (beats_taken small_system small_run 1 c))
    asked_one = five _ (omega arith) (omega arith) (omega arith) (omega arith) (omega arith)

pub awake : (a : ℕ) → a < 2 → KeepsAwake small_system small_run a (small_ways a) small_standings 4
awake a low = record {
  agent_part = agent_part a low;
  lower = λ i h. absurd (omega (arith, h));
  arbiter = two (λ a. IsArbiterPart small_system a (λ h. down h a) (tagged (small_ways a) 0) 4) arbiter_zero arbiter_one a low;
  upper = λ h i low' fit. links h a low' low;
}

pub record Laws : Type 0 where
  pub front : (system : System) (run : Run) (host agent : ℕ) (middle : Port) (down : ℕ → Port) (end : ℕ) → agent < system.agents → IsHostPart system run host middle end → IsRoutePart system host middle down end → IsFront system run host agent (down agent) end
  pub wire : (top port : Port) (end : ℕ) → PassesWhileStill (record { hold = 0; kept = 0 }) top port port end

pub keeps_whole : Laws → (a : ℕ) → a < 2 → KeepsWhole small_system small_run a (small_ways a) small_standings 4
keeps_whole laws a low = record {
  awake = awake a low;
  front = λ h low'. two (λ h. IsFront small_system small_run h a (down h a) 4) (laws.front small_system small_run 0 a (middle 0) (down 0) 4 low host_zero route_zero) (laws.front small_system small_run 1 a (middle 1) (down 1) 4 low host_one route_one) h low';
  gives = λ h low'. two (λ h. (a : ℕ) → a < 2 → GivesAtOnce small_system small_run h a (down h a) 4)
      (two (λ a. GivesAtOnce small_system small_run 0 a (down 0 a) 4) (four _ (λ x. cc) (λ x. cc) (λ x. cc) (λ x. cc)) (four _ (λ x. cc) (λ x. cc) (λ x. refl) (λ x. cc)))
      (two (λ a. GivesAtOnce small_system small_run 1 a (down 1 a) 4) (four _ (λ x. cc) (λ x. cc) (λ x. cc) (λ x. cc)) (four _ (λ x. cc) (λ x. cc) (λ x. cc) (λ x. cc)))
      h low' a low;
  links = λ h low'. omega arith;
  in_order = λ c h. five a low c h;
  words = λ h low'. two (λ h. (a : ℕ) → a < 2 → (down h a).shape.word_bytes ≡ (below a).shape.word_bytes) (two (λ a. (down 0 a).shape.word_bytes ≡ (below a).shape.word_bytes) refl refl) (two (λ a. (down 1 a).shape.word_bytes ≡ (below a).shape.word_bytes) refl refl) h low' a low;
}
  where
    five : (a : ℕ) → a < 2 → (c : ℕ) → c ≤ 4 → IsPrefix (taken small_system small_run a c) (tagged_operations (groups_of (target_of small_system a) (below a).shape (shown_at (below a) c)))
    five a low c h = two (λ a. (c : ℕ) → c < 5 → IsPrefix (taken small_system small_run a c) (tagged_operations (groups_of (target_of small_system a) (below a).shape (shown_at (below a) c))))
        (λ c h. each_below (λ c. IsPrefix (taken small_system small_run 0 c) (tagged_operations (groups_of (target_of small_system 0) (below 0).shape (shown_at (below 0) c)))) 5 c
        (((((tt, record { rest = _; joins = refl }), record { rest = _; joins = refl }), record { rest = _; joins = refl }), record { rest = _; joins = refl }), record { rest = _; joins = refl }) h)
        (λ c h. each_below (λ c. IsPrefix (taken small_system small_run 1 c) (tagged_operations (groups_of (target_of small_system 1) (below 1).shape (shown_at (below 1) c)))) 5 c
        (((((tt, record { rest = _; joins = refl }), record { rest = _; joins = refl }), record { rest = _; joins = refl }), record { rest = _; joins = refl }), record { rest = _; joins = refl }) h)
        a low c (omega (arith, h))

pub default_zero : IsDefaultFront small_system small_run 0 4
default_zero = record { due = λ c. false; beats = four _ (λ x y. cc) (λ x y. cc) (λ x y. refl) (λ x y. cc); owed = four _ (λ x. cc) (λ x. cc) (λ x. cc) (λ x. cc); gives = λ c h x. absurd (no_true x) }

default_one : IsDefaultFront small_system small_run 1 4
default_one = record { due = λ c. false; beats = four _ (λ x y. cc) (λ x y. cc) (λ x y. cc) (λ x y. cc); owed = four _ (λ x. cc) (λ x. cc) (λ x. cc) (λ x. cc); gives = λ c h x. absurd (no_true x) }

legal_run : IsLegalRun small_system small_run 4
legal_run = record {
  hosts = λ h low. two (λ h. IsLegalHost (small_system.host h) (small_run.at_host h) 4) host_zero.legal host_one.legal h low;
  agents = λ a low. two (λ a. IsLegalAgent (small_system.agent a) (small_run.at_agent a) 4) (record { owed = λ has. four _ (omega arith) (omega arith) (omega arith) (omega arith) }) (record { owed = λ has. four _ (omega arith) (omega arith) (omega arith) (omega arith) }) a low;
}

pub is_awake : Laws → IsAwake small_system small_run small_approach 4
is_awake laws = record {
  legal = legal_run;
  agents = λ a low. record {
    shares = (omega arith, (omega arith, tt));
    parts = keeps_whole laws a low;
    pass = record { lower = λ i h. absurd (omega (arith, h)); upper = λ h i low' fit. laws.wire (down h a) (down h a) 4 };
    modest = record {
      stages = refl;
      few_stages = omega arith;
      few_hosts = omega arith;
      wait = omega arith;
      lower = λ i h. absurd (omega (arith, h));
      upper = λ h low'. omega arith;
      toll = λ h low'. omega arith;
    };
  };
  default = λ h low. two (λ h. IsDefaultFront small_system small_run h 4) default_zero default_one h low;
}
