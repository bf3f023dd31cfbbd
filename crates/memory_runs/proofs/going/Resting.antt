-- A legal run in whose next cycle all components rest is legal one cycle longer.
use Rattle.std.proofs.Common.{◌≡◌, ℕ, zero, suc, ◌+◌, ◌<◌, ◌≤◌, Bool, true, false, not, ◌&&◌, IsTrue, inl, inr, refl, sym, ap, ◌∙◌, subst, arith, append-nil, ◌++◌, length, zero-le}
use Rattle.std.specs.Prelude.{IsFalse, nat_lt, ◌⊎◌}
use Rattle.std.proofs.lemmas.Bool.{false≢true, not-true, and_parts, or_parts, and_left, and_right, not_from_true}
use Rattle.std.proofs.Math.Nat.{eq-or-lt_of_le, le_of_suc-le-suc, le_trans}
use Rattle.histories.specs.History.{before, only_if, is_raised}
use Rattle.histories.specs.Laws.{before_extends, prefix_filter, prefix_flat_map, prefix_length}
use Rattle.memory_runs.specs.Views.{Signals, Shape, Levels, HostView, AgentSide, AgentView, System, Run, levels_at}
use Rattle.memory_runs.specs.Commands.{Transfer, shows, presents, is_held, is_of_reads, burst_after, burst_before, agent_accepts, words_before}
use Rattle.memory_runs.specs.Legal.{AreLegal, AreOwed, IsLegalAgent, host_accepts, is_under_way, words_asked}
use Rattle.memory_runs.specs.Beginnings.{RunsAgreeBefore}
use Rattle.memory_runs.specs.Whole.{IsLegalRun}
use Rattle.memory_runs.specs.Going.{HostRests, AgentRests, AreAtRest, ModuleShowsAlike, rested, rested_on}

-- the last of so many cycles, or an earlier one
last_or_earlier : (c end : ℕ) → c < suc end → (c ≡ end) ⊎ (c < end)
last_or_earlier c end low = eq-or-lt_of_le (le_of_suc-le-suc low)

-- ---- hosts

-- what shows nothing shows no read and no write
no_read : (view : HostView) (c : ℕ) → IsFalse (shows view.signals c) → IsFalse (is_raised (view.read c))
no_read view c none = (or_parts (is_raised (view.read c)) (is_raised (view.write c)) none).0

not_both : (view : HostView) (c : ℕ) → IsFalse (shows view.signals c) → IsTrue (not (is_raised (view.read c) && is_raised (view.write c)))
not_both view c none = ap (λ b. not (b && is_raised (view.write c))) (no_read view c none)

-- no new beat is presented
presents_none : (view : HostView) (end : ℕ) → HostRests view end → IsFalse (presents view.signals (host_accepts view) end)
presents_none view zero rests = rests.silent refl
presents_none view (suc p) rests = by (is_held view.signals (host_accepts view) p) refl
  where
    by : (b : Bool) → is_held view.signals (host_accepts view) p ≡ b → IsFalse (presents view.signals (host_accepts view) (suc p))
    by true e = and_right (shows view.signals (suc p)) _ (not_from_true _ e)
    by false e = and_left (shows view.signals (suc p)) _ (rests.silent e)

one_kind : (shape : Shape) (view : HostView) (end : ℕ) → HostRests view end → AreLegal shape view.signals (host_accepts view) end → IsTrue (not (is_raised (view.read end) && is_raised (view.write end)))
one_kind shape view zero rests legal = not_both view zero (rests.silent refl)
one_kind shape view (suc p) rests legal = by (is_held view.signals (host_accepts view) p) refl
  where
    by : (b : Bool) → is_held view.signals (host_accepts view) p ≡ b → IsTrue (not (is_raised (view.read (suc p)) && is_raised (view.write (suc p))))
    by true e = subst (λ (l : Levels). IsTrue (not (is_raised l.read && is_raised l.write))) (rests.held p refl e) (legal.one_kind p (omega arith))
    by false e = not_both view (suc p) (rests.silent e)

-- a burst under way stays where no beat of it is accepted
still_under_way : (shape : Shape) (view : HostView) (p : ℕ) → IsTrue (is_held view.signals (host_accepts view) p)
    → IsTrue (is_under_way shape view.signals (host_accepts view) (suc p)) → IsTrue (is_under_way shape view.signals (host_accepts view) p)
still_under_way shape view p held under =
    let none = not-true (host_accepts view p) (and_parts (shows view.signals p) (not (host_accepts view p)) held).1 in
    subst (λ a. IsTrue (nat_lt 0 (burst_after shape (levels_at view.signals p) a (burst_before shape view.signals (host_accepts view) p)).left)) none under

finished : (shape : Shape) (view : HostView) (end : ℕ) → HostRests view end → AreLegal shape view.signals (host_accepts view) end
    → IsTrue (is_under_way shape view.signals (host_accepts view) end) → IsFalse (is_raised (view.read end))
finished shape view zero rests legal under = no_read view zero (rests.silent refl)
finished shape view (suc p) rests legal under = by (is_held view.signals (host_accepts view) p) refl
  where
    by : (b : Bool) → is_held view.signals (host_accepts view) p ≡ b → IsFalse (is_raised (view.read (suc p)))
    by true e = subst (λ (l : Levels). IsFalse (is_raised l.read)) (rests.held p refl e) (legal.finished p (omega arith) (still_under_way shape view p e under))
    by false e = no_read view (suc p) (rests.silent e)

host_further : (shape : Shape) (view : HostView) (end : ℕ) → HostRests view end → AreLegal shape view.signals (host_accepts view) end → AreLegal shape view.signals (host_accepts view) (suc end)
host_further shape view end rests legal = record {
  one_kind = λ c low. elim (last_or_earlier c end low) [
    | inl same ↦ subst (λ k. IsTrue (not (is_raised (view.read k) && is_raised (view.write k)))) (sym same) (one_kind shape view end rests legal)
    | inr less ↦ legal.one_kind c less
  ];
  held = λ c low is. elim (last_or_earlier (suc c) end low) [
    | inl same ↦ rests.held c same is
    | inr less ↦ legal.held c less is
  ];
  least = λ c low first free. elim (last_or_earlier c end low) [
    | inl same ↦ absurd (false≢true (sym (presents_none view end rests) ∙ subst (λ k. IsTrue (presents view.signals (host_accepts view) k)) same first))
    | inr less ↦ legal.least c less first free
  ];
  most = λ c low first free. elim (last_or_earlier c end low) [
    | inl same ↦ absurd (false≢true (sym (presents_none view end rests) ∙ subst (λ k. IsTrue (presents view.signals (host_accepts view) k)) same first))
    | inr less ↦ legal.most c less first free
  ];
  finished = λ c low under. elim (last_or_earlier c end low) [
    | inl same ↦ subst (λ k. IsFalse (is_raised (view.read k))) (sym same) (finished shape view end rests legal (subst (λ k. IsTrue (is_under_way shape view.signals (host_accepts view) k)) same under))
    | inr less ↦ legal.finished c less under
  ];
}

-- ---- agents

-- what was asked only grows
asked_grows : (shape : Shape) (signals : Signals) (accepts : ℕ → Bool) (c : ℕ) → words_asked shape signals accepts c ≤ words_asked shape signals accepts (suc c)
asked_grows shape signals accepts c = prefix_length (prefix_flat_map (λ (t : Transfer). t.beats) (prefix_filter (λ (t : Transfer). is_of_reads t.kind) (before_extends _ c)))

-- no more words were given than were asked
given_of_asked : (valid asked : ℕ → ℕ) (end : ℕ) → ((c : ℕ) → asked c ≤ asked (suc c)) → AreOwed valid asked end → words_before valid end ≤ asked end
given_of_asked valid asked zero grows owed = zero-le
given_of_asked valid asked (suc p) grows owed = le_trans (owed p (omega arith)) (grows p)

-- a cycle without a word adds none
no_more_words : (valid : ℕ → ℕ) (end : ℕ) → IsFalse (is_raised (valid end)) → words_before valid end ≡ words_before valid (suc end)
no_more_words valid end none =
    ap length (sym (append-nil _))
    ∙ ap (λ b. length (before (λ c. only_if (is_raised (valid c)) c) end ++ only_if b end)) (sym none)

owed_further : (valid asked : ℕ → ℕ) (end : ℕ) → ((c : ℕ) → asked c ≤ asked (suc c)) → IsFalse (is_raised (valid end)) → AreOwed valid asked end → AreOwed valid asked (suc end)
owed_further valid asked end grows none owed c low = elim (last_or_earlier c end low) [
  | inl same ↦ subst (λ k. words_before valid (suc k) ≤ asked k) (sym same)
      (subst (λ n. n ≤ asked end) (no_more_words valid end none) (given_of_asked valid asked end grows owed))
  | inr less ↦ owed c less
]

agent_further : (side : AgentSide) (view : AgentView) (end : ℕ) → AgentRests side view end → IsLegalAgent side view end → IsLegalAgent side view (suc end)
agent_further side view end rests legal = record {
  owed = λ has. owed_further view.readdatavalid _ end (asked_grows side.shape view.signals (agent_accepts side view)) (rests has) (legal.owed has);
}

-- ---- whole runs

pub run_further : (system : System) (run : Run) (end : ℕ) → IsLegalRun system run end → AreAtRest system run end → IsLegalRun system run (suc end)
run_further system run end legal rest = record {
  hosts = λ h below. host_further _ (run.at_host h) end (rest.hosts h below) (legal.hosts h below);
  agents = λ a below. agent_further (system.agent a) (run.at_agent a) end (rest.agents a below) (legal.agents a below);
}

-- what is known of runs that rest, and of runs that show the same in their first cycles
pub record RestLaws : Type 0 where
  pub rests : (system : System) (run : Run) (end : ℕ) → AreAtRest system (rested run end) end
  pub begins : (run : Run) (end : ℕ) → RunsAgreeBefore run (rested run end) end
  pub shown : (run : Run) (end : ℕ) → ModuleShowsAlike run (rested run end)
  pub legal : (system : System) (one two : Run) (end : ℕ) → RunsAgreeBefore one two end → IsLegalRun system one end → IsLegalRun system two end

module _ (laws : RestLaws) where
  pub alike_further : (system : System) (run other : Run) (end : ℕ) → RunsAgreeBefore run other end → IsLegalRun system run end → AreAtRest system other end → IsLegalRun system other (suc end)
  alike_further system run other end same legal rest = run_further system other end (laws.legal system run other end same legal) rest

  pub legal_on : (system : System) (run : Run) (end more : ℕ) → IsLegalRun system run end → IsLegalRun system (rested_on run end more) (end + more)
  legal_on system run end zero legal = let none : end ≡ end + 0 = omega arith in subst (IsLegalRun system run) none legal
  legal_on system run end (suc more) legal =
      let one : suc (end + more) ≡ end + suc more = omega arith in
      subst (IsLegalRun system (rested_on run end (suc more))) one
      (alike_further system (rested_on run end more) _ (end + more) (laws.begins (rested_on run end more) (end + more)) (legal_on system run end more legal)
      (laws.rests system (rested_on run end more) (end + more)))

  itself : (run : Run) (end : ℕ) → RunsAgreeBefore run run end
  itself run end = record {
    hosts = λ h. record { signals = λ c low. refl; waitrequest = λ c low. refl; readdata = λ c low. refl; readdatavalid = λ c low. refl; response = λ c low. refl };
    agents = λ a. record { signals = λ c low. refl; waitrequest = λ c low. refl; readdata = λ c low. refl; readdatavalid = λ c low. refl; response = λ c low. refl; grant = λ c low. refl };
  }

  -- what agrees with a run that agrees in more cycles
  then_agree : (one two three : Run) (end later : ℕ) → end ≤ later → RunsAgreeBefore one two end → RunsAgreeBefore two three later → RunsAgreeBefore one three end
  then_agree one two three end later more first second = record {
    hosts = λ h. (let a = first.hosts h in let b = second.hosts h in record {
      signals = λ c low. a.signals c low ∙ b.signals c (omega (arith, low, more));
      waitrequest = λ c low. a.waitrequest c low ∙ b.waitrequest c (omega (arith, low, more));
      readdata = λ c low. a.readdata c low ∙ b.readdata c (omega (arith, low, more));
      readdatavalid = λ c low. a.readdatavalid c low ∙ b.readdatavalid c (omega (arith, low, more));
      response = λ c low. a.response c low ∙ b.response c (omega (arith, low, more));
    });
    agents = λ x. (let a = first.agents x in let b = second.agents x in record {
      signals = λ c low. a.signals c low ∙ b.signals c (omega (arith, low, more));
      waitrequest = λ c low. a.waitrequest c low ∙ b.waitrequest c (omega (arith, low, more));
      readdata = λ c low. a.readdata c low ∙ b.readdata c (omega (arith, low, more));
      readdatavalid = λ c low. a.readdatavalid c low ∙ b.readdatavalid c (omega (arith, low, more));
      response = λ c low. a.response c low ∙ b.response c (omega (arith, low, more));
      grant = λ c low. a.grant c low ∙ b.grant c (omega (arith, low, more));
    });
  }

  pub begins_on : (run : Run) (end more : ℕ) → RunsAgreeBefore run (rested_on run end more) end
  begins_on run end zero = itself run end
  begins_on run end (suc more) = then_agree run (rested_on run end more) _ end (end + more) (omega arith) (begins_on run end more) (laws.begins (rested_on run end more) (end + more))

  -- ---- what the module shows

  pub shown_on : (run : Run) (end more : ℕ) → ModuleShowsAlike run (rested_on run end more)
  shown_on run end zero = record { waitrequest = λ h. refl; readdata = λ h. refl; readdatavalid = λ h. refl; response = λ h. refl; commands = λ a. refl; grant = λ a. refl }
  shown_on run end (suc more) =
      let first = shown_on run end more in
      let second = laws.shown (rested_on run end more) (end + more) in
      record {
        waitrequest = λ h. first.waitrequest h ∙ second.waitrequest h;
        readdata = λ h. first.readdata h ∙ second.readdata h;
        readdatavalid = λ h. first.readdatavalid h ∙ second.readdatavalid h;
        response = λ h. first.response h ∙ second.response h;
        commands = λ a. first.commands a ∙ second.commands a;
        grant = λ a. first.grant a ∙ second.grant a;
      }
