-- What is asked of one end up to a cycle depends on what is shown up to it.
use Rattle.std.proofs.Common.{◌≡◌, ℕ, zero, suc, ◌+◌, ◌*◌, ◌%◌, ◌≤◌, ◌<◌, Bool, not, ◌&&◌, ◌||◌, IsTrue, List, ◌++◌, map, length, if◌then◌else◌, refl, ap, ap₂, sym, ◌∙◌, subst, arith, nat_lt, nat_eq}
use Rattle.std.specs.Prelude.{IsFalse}
use Rattle.histories.specs.History.{before, only_if, is_raised, unreached}
use Rattle.memory_runs.specs.Views.{Signals, Levels, levels_at, Shape, HostSide, AgentSide, HostView, AgentView}
use Rattle.memory_runs.specs.Commands.{Burst, Transfer, shows, is_held, presents, accepts_by, wait_time, stood_before, agent_accepts, burst_before, burst_after, transfer_at, transfer_of, presented, accepted, reads_among, read_beats, words_before, longest_burst}
use Rattle.memory_runs.specs.Legal.{AreLegal, AreOwed, IsLegalAgent, IsProperAtAgent, IsProperAtHost, Word, is_under_way, host_accepts, words_asked, unanswered, gives_word, given}
use Rattle.memory_runs.specs.Views.{Run}
use Rattle.memory_runs.specs.Beginnings.{HostsAgree, AgentsAgree, RunsAgreeBefore}

pub agree_turned : (one two : Run) (end : ℕ) → RunsAgreeBefore one two end → RunsAgreeBefore two one end
agree_turned one two end same = record {
  hosts = λ h. record {
    signals = λ c low. sym ((same.hosts h).signals c low);
    waitrequest = λ c low. sym ((same.hosts h).waitrequest c low);
    readdata = λ c low. sym ((same.hosts h).readdata c low);
    readdatavalid = λ c low. sym ((same.hosts h).readdatavalid c low);
    response = λ c low. sym ((same.hosts h).response c low);
  };
  agents = λ a. record {
    signals = λ c low. sym ((same.agents a).signals c low);
    waitrequest = λ c low. sym ((same.agents a).waitrequest c low);
    readdata = λ c low. sym ((same.agents a).readdata c low);
    readdatavalid = λ c low. sym ((same.agents a).readdatavalid c low);
    response = λ c low. sym ((same.agents a).response c low);
    grant = λ c low. sym ((same.agents a).grant c low);
  };
}

pub same_before : {A : Type 0} (f g : ℕ → List A) (end : ℕ) → ((c : ℕ) → c < end → f c ≡ g c) → (c : ℕ) → c ≤ end → before f c ≡ before g c
same_before f g end same zero low = refl
same_before f g end same (suc c) low = ap₂ (λ a b. a ++ b) (same_before f g end same c (omega arith)) (same c (omega arith))

-- a side that carries commands
module _ (shape : Shape) (one two : Signals) (takes takes' : ℕ → Bool) (end : ℕ) (same : (c : ℕ) → c < end → levels_at one c ≡ levels_at two c) (accepts : (c : ℕ) → c < end → takes c ≡ takes' c) where
  pub same_shows : (c : ℕ) → c < end → shows one c ≡ shows two c
  same_shows c low = ap (λ (l : Levels). is_raised l.read || is_raised l.write) (same c low)

  pub same_held : (c : ℕ) → c < end → is_held one takes c ≡ is_held two takes' c
  same_held c low = ap₂ (λ s a. s && not a) (same_shows c low) (accepts c low)

  pub same_presents : (c : ℕ) → c < end → presents one takes c ≡ presents two takes' c
  same_presents zero low = same_shows zero low
  same_presents (suc c) low = ap₂ (λ s k. s && not k) (same_shows (suc c) low) (same_held c (omega arith))

  pub same_burst : (c : ℕ) → c ≤ end → burst_before shape one takes c ≡ burst_before shape two takes' c
  same_burst zero low = refl
  same_burst (suc c) low =
      ap₂ (λ l a. burst_after shape l a (burst_before shape one takes c)) (same c (omega arith)) (accepts c (omega arith))
      ∙ ap (burst_after shape (levels_at two c) (takes' c)) (same_burst c (omega arith))

  pub same_transfer : (c : ℕ) → c < end → transfer_at shape one takes c ≡ transfer_at shape two takes' c
  same_transfer c low = ap₂ (transfer_of shape) (same c low) (same_burst c (omega arith))

  pub same_presented : (c : ℕ) → c ≤ end → presented shape one takes c ≡ presented shape two takes' c
  same_presented = same_before _ _ end (λ c low. ap₂ (λ b t. only_if b t) (same_presents c low) (same_transfer c low))

  pub same_accepted : (c : ℕ) → c ≤ end → accepted shape one takes c ≡ accepted shape two takes' c
  same_accepted = same_before _ _ end (λ c low. ap₂ (λ b t. only_if b t) (accepts c low) (same_transfer c low))

  pub same_under_way : (c : ℕ) → c ≤ end → is_under_way shape one takes c ≡ is_under_way shape two takes' c
  same_under_way c low = ap (λ (b : Burst). nat_lt 0 b.left) (same_burst c low)

  pub same_asked : (c : ℕ) → c ≤ end → words_asked shape one takes c ≡ words_asked shape two takes' c
  same_asked c low = ap (λ ts. length (read_beats ts)) (same_accepted c low)

  pub same_unanswered : (words words' c : ℕ) → words ≡ words' → c ≤ end → unanswered shape one takes words c ≡ unanswered shape two takes' words' c
  same_unanswered words words' c counted low = ap₂ (λ ts n. unreached (map (λ (t : Transfer). length t.beats) (reads_among ts)) n) (same_accepted c low) counted

  pub same_legal : AreLegal shape one takes end → AreLegal shape two takes' end
  same_legal legal = record {
    one_kind = λ c low. subst (λ (l : Levels). IsTrue (not (is_raised l.read && is_raised l.write))) (same c low) (legal.one_kind c low);
    held = λ c low held. sym (same c (omega arith)) ∙ legal.held c low (subst IsTrue (sym (same_held c (omega arith))) held) ∙ same (suc c) low;
    least = λ c low first free. subst (λ (l : Levels). 1 ≤ l.count) (same c low)
        (legal.least c low (subst IsTrue (sym (same_presents c low)) first) (subst IsFalse (sym (same_under_way c (omega arith))) free));
    most = λ c low first free. subst (λ (l : Levels). l.count ≤ longest_burst shape.burst_bits) (same c low)
        (legal.most c low (subst IsTrue (sym (same_presents c low)) first) (subst IsFalse (sym (same_under_way c (omega arith))) free));
    finished = λ c low under. subst (λ (l : Levels). IsFalse (is_raised l.read)) (same c low) (legal.finished c low (subst IsTrue (sym (same_under_way c (omega arith))) under));
  }

pub same_words : (valid valid' : ℕ → ℕ) (end : ℕ) → ((c : ℕ) → c < end → valid c ≡ valid' c) → (c : ℕ) → c ≤ end → words_before valid c ≡ words_before valid' c
same_words valid valid' end same c low = ap length (same_before _ _ end (λ k less. ap (λ v. only_if (is_raised v) k) (same k less)) c low)

same_owed : (valid valid' asked asked' : ℕ → ℕ) (end : ℕ) → ((c : ℕ) → c < end → valid c ≡ valid' c) → ((c : ℕ) → c < end → asked c ≡ asked' c) → AreOwed valid asked end → AreOwed valid' asked' end
same_owed valid valid' asked asked' end same asks owed c low =
    subst (λ n. n ≤ asked' c) (same_words valid valid' end same (suc c) low) (subst (λ n. words_before valid (suc c) ≤ n) (asks c low) (owed c low))

-- a host
module _ (side : HostSide) (one two : HostView) (end : ℕ) (same : HostsAgree one two end) where
  pub same_host_accepts : (c : ℕ) → c < end → host_accepts one c ≡ host_accepts two c
  same_host_accepts c low = ap₂ (λ (l : Levels) w. (is_raised l.read || is_raised l.write) && not (is_raised w)) (same.signals c low) (same.waitrequest c low)

  pub same_gives : (c : ℕ) → c < end → gives_word side one c ≡ gives_word side two c
  same_gives c low =
      ap (λ v. if side.has_readdatavalid then is_raised v else is_raised (one.read c) && not (is_raised (one.waitrequest c))) (same.readdatavalid c low)
      ∙ ap₂ (λ (l : Levels) w. if side.has_readdatavalid then is_raised (two.readdatavalid c) else is_raised l.read && not (is_raised w)) (same.signals c low) (same.waitrequest c low)

  abbrev WordAt : HostView → ℕ → Word
  WordAt view c = record { word = view.readdata c; code = view.response c }

  pub same_word : (c : ℕ) → c < end → WordAt one c ≡ WordAt two c
  same_word c low = ap₂ (λ w k. record { word = w; code = k }) (same.readdata c low) (same.response c low)

  pub same_given : (c : ℕ) → c ≤ end → given side one c ≡ given side two c
  same_given = same_before _ _ end (λ c low. ap₂ (λ b w. only_if b w) (same_gives c low) (same_word c low))

  pub same_proper_at_host : IsProperAtHost side one end → IsProperAtHost side two end
  same_proper_at_host proper = record {
    bounded = λ c low. subst (λ n. n ≤ 16)
        (same_unanswered side.shape one.signals two.signals (host_accepts one) (host_accepts two) end same.signals same_host_accepts _ _ (suc c) (ap length (same_given (suc c) low)) low) (proper.bounded c low);
    later = λ has. same_owed _ _ _ _ end same.readdatavalid (λ c low. same_asked side.shape one.signals two.signals (host_accepts one) (host_accepts two) end same.signals same_host_accepts c (omega arith)) (proper.later has);
  }

-- an agent
module _ (side : AgentSide) (one two : AgentView) (end : ℕ) (same : AgentsAgree one two end) where
  abbrev stands_for : Levels → ℕ → ℕ
  stands_for l stood = if (is_raised l.read || is_raised l.write) && not (nat_eq stood (if is_raised l.write then side.write_wait else side.read_wait)) then stood + 1 else 0

  same_stood : (c : ℕ) → c ≤ end → stood_before side one c ≡ stood_before side two c
  same_stood zero low = refl
  same_stood (suc c) low = ap₂ stands_for (same.signals c (omega arith)) (same_stood c (omega arith))

  pub same_agent_accepts : (c : ℕ) → c < end → agent_accepts side one c ≡ agent_accepts side two c
  same_agent_accepts c low =
      ap₂ (λ (l : Levels) w. if side.has_waitrequest then (is_raised l.read || is_raised l.write) && not (is_raised w)
      else (is_raised l.read || is_raised l.write) && nat_eq (stood_before side one c) (if is_raised l.write then side.write_wait else side.read_wait)) (same.signals c low) (same.waitrequest c low)
      ∙ ap (λ n. if side.has_waitrequest then accepts_by two.signals two.waitrequest c else shows two.signals c && nat_eq n (wait_time side two c)) (same_stood c (omega arith))

  pub same_legal_agent : IsLegalAgent side one end → IsLegalAgent side two end
  same_legal_agent legal = record {
    owed = λ has. same_owed _ _ _ _ end same.readdatavalid (λ c low. same_asked side.shape one.signals two.signals (agent_accepts side one) (agent_accepts side two) end same.signals same_agent_accepts c (omega arith)) (legal.owed has);
  }

  pub same_proper_at_agent : IsProperAtAgent side one end → IsProperAtAgent side two end
  same_proper_at_agent proper = record {
    legal = same_legal side.shape one.signals two.signals (agent_accepts side one) (agent_accepts side two) end same.signals same_agent_accepts proper.legal;
    aligned = λ c low shown.
        ap (λ (l : Levels). (l.address * side.unit_bytes) % side.word_bytes) (sym (same.signals c low))
        ∙ proper.aligned c low (subst IsTrue (ap (λ (l : Levels). is_raised l.read || is_raised l.write) (sym (same.signals c low))) shown);
    bounded = λ c low has. subst (λ n. n ≤ side.pending)
        (same_unanswered side.shape one.signals two.signals (agent_accepts side one) (agent_accepts side two) end same.signals same_agent_accepts _ _ (suc c) (same_words one.readdatavalid two.readdatavalid end same.readdatavalid (suc c) low) low)
        (proper.bounded c low has);
  }
