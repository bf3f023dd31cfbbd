-- Below a wire bursts may be longer: what is shown and taken there is the same, and what a link keeps it keeps with that wire behind it.
use Rattle.std.proofs.Common.{ℕ, zero, suc, ◌<◌, ◌≤◌, ◌≡◌, ◌-◌, ◌^◌, ◌&&◌, ◌||◌, Bool, false, List, [], ◌∷◌, ◌++◌, length, arith, refl, sym, ap, subst, ◌∙◌, IsTrue, le_refl}
use Rattle.std.proofs.Math.Nat.{pow-le-pow_right}
use Rattle.std.proofs.Math.Path.{fun_ext}
use Rattle.histories.specs.History.{IsPrefix}
use Rattle.memory_runs.specs.Views.{Shape, Signals, System, Run, levels_at}
use Rattle.memory_runs.specs.Commands.{burst_before, burst_after}
use Rattle.memory_machines.specs.Link.{Target, Port, Marked, AreLegalAt, AnswersAreOwed, CarriesCommands, takes, shown_at, taken_at, items_from, items_of, acted_after, items, operations_among, closes}
use Rattle.memory_machines.specs.Lines.{IsCarrier, KeepsRow, IsWordForWord, target_of}
use Rattle.memory_machines.specs.PartRanks.{JoinsAlike, HoldsBack, are_joined_alike, goes_on_alike}
use Rattle.memory_machines.specs.Straight.{GoesStraightThrough, IsShownPromptly}
use Rattle.memory_links.specs.Begins.{BeginsBelow}
use Rattle.memory_links.specs.Going.{KeepsGoing, RowGoesOn, RowGoesOn.at_end, RowGoesOn.further}
use Rattle.memory_links.specs.InStep.{GoesInStep}
use Rattle.memory_links.specs.Links.{IsLink, HandsOnJoins, BringsLanesDown, OwesNothingBelow, pass_form}
use Rattle.memory_awake.specs.Fair.{EndsThere, ShowsOperation, WaitsThere}
use Rattle.memory_awake.specs.Wires.{IsWire, shape_with, with_bursts}

burst_same : (bits : ℕ) (shape : Shape) (signals : Signals) (accepts : ℕ → Bool) (c : ℕ) → burst_before (shape_with bits shape) signals accepts c ≡ burst_before shape signals accepts c
burst_same bits shape signals accepts zero = refl
burst_same bits shape signals accepts (suc c) = ap (burst_after shape (levels_at signals c) (accepts c)) (burst_same bits shape signals accepts c)

items_same : (bits : ℕ) (target : Target) (shape : Shape) (acted : Bool) (transfers : List Marked) → items_from target (shape_with bits shape) acted transfers ≡ items_from target shape acted transfers
items_same bits target shape acted [] = refl
items_same bits target shape acted (m ∷ later) = ap (λ l. items_of target shape acted m ++ l) (items_same bits target shape (acted_after target shape acted m) later)

joined_same : (bits : ℕ) (target : Target) (port : Port) (transfers : List Marked) → are_joined_alike target (with_bursts bits port) transfers ≡ are_joined_alike target port transfers
joined_same bits target port [] = refl
joined_same bits target port (m ∷ []) = refl
joined_same bits target port (m ∷ next ∷ later) = ap (λ b. (closes m || goes_on_alike target port m next) && b) (joined_same bits target port (next ∷ later))

more_beats : (x y : ℕ) → x ≤ y → 2 ^ x ≤ 2 ^ y
more_beats x y h = let some : 0 < 2 = omega arith in pow-le-pow_right some h

module _ (bits : ℕ) (port : Port) where
  abbrev wide : Port
  wide = with_bursts bits port

  pub bursts : burst_before (shape_with bits port.shape) port.commands.signals (takes port) ≡ burst_before port.shape port.commands.signals (takes port)
  bursts = fun_ext (burst_same bits port.shape port.commands.signals (takes port))

  shown_same : (c : ℕ) → shown_at wide c ≡ shown_at port c
  shown_same c = rw bursts refl

  taken_same : (c : ℕ) → taken_at wide c ≡ taken_at port c
  taken_same c = rw bursts refl

  items_are : (target : Target) (c : ℕ) → items target wide c ≡ items target port c
  items_are target c = items_same bits target port.shape false (shown_at wide c) ∙ ap (items_from target port.shape false) (shown_same c)

  owed_narrow : (end : ℕ) → AnswersAreOwed wide end → AnswersAreOwed port end
  owed_narrow end owed c h = rw bursts at (owed c h)

  owed_wide : (end : ℕ) → AnswersAreOwed port end → AnswersAreOwed wide end
  owed_wide end owed c h = rw bursts (owed c h)

  alike_wide : (target : Target) (end : ℕ) → JoinsAlike target port end → JoinsAlike target wide end
  alike_wide target end alike c h = subst IsTrue (sym (joined_same bits target port (shown_at wide c) ∙ ap (are_joined_alike target port) (shown_same c))) (alike c h)

  module _ (longer : port.shape.burst_bits ≤ bits) where
    legal_wide : (end : ℕ) → AreLegalAt port end → AreLegalAt wide end
    legal_wide end legal = record {
      legal = record {
        one_kind = legal.legal.one_kind;
        held = legal.legal.held;
        least = λ c h first free. legal.legal.least c h first (rw bursts at free);
        most = λ c h first free.
            let most = legal.legal.most c h first (rw bursts at free) in
            let more = more_beats (port.shape.burst_bits - 1) (bits - 1) (omega (arith, longer)) in
            omega (arith, most, more);
        finished = λ c h under. legal.legal.finished c h (rw bursts at under);
      };
      tag = legal.tag;
      more = legal.more;
      joined = λ c h shown. rw bursts (legal.joined c h shown);
    }

    module _ (target : Target) (up : Port) (end : ℕ) where
      carrier_wide : (hold : ℕ) → IsCarrier target hold up port end → IsCarrier target hold up wide end
      carrier_wide hold carrier = record {
        commands = λ c h legal owed. commands c (carrier.commands c h legal (owed_narrow (c - 1) owed));
        answers = λ c h legal owed. (let back = carrier.answers c h legal (owed_narrow c owed) in record { bytes = λ k less. rw bursts (back.bytes k less); owed = back.owed });
      }
        where
          commands : (c : ℕ) → CarriesCommands target hold up port c → CarriesCommands target hold up wide c
          commands c carries = record {
            in_order = λ k h. subst (λ l. IsPrefix l (items target up k)) (sym (items_are target k)) (carries.in_order k h);
            beats = λ k tag h. rw bursts (carries.beats k tag h);
            legal = legal_wide c carries.legal;
            held = λ k h. rw bursts (carries.held k h);
            whole = λ k h. rw bursts (carries.whole k h);
          }

      row_wide : (hold : ℕ) → KeepsRow target hold up port end → KeepsRow target hold up wide end
      row_wide hold row = record {
        carries = carrier_wide hold row.carries;
        codes = λ c h legal owed. rw bursts (row.codes c h legal (owed_narrow c owed));
        hands_on = λ c h legal owed. (let on = row.hands_on c h legal (owed_narrow (c - 1) owed) in record { tags = on.tags; kinds = on.kinds });
      }

      words_wide : IsWordForWord target up port end → IsWordForWord target up wide end
      words_wide words c h legal owed = rw bursts (words c h legal (owed_narrow c owed))

      lanes_wide : (makes : Bool) → BringsLanesDown makes target up port end → BringsLanesDown makes target up wide end
      lanes_wide makes lanes c h legal owed has k less = rw bursts (lanes c h legal (owed_narrow (c - 1) owed) has k less)

      joins_wide : HandsOnJoins target up port end → HandsOnJoins target up wide end
      joins_wide joins c h legal owed alike = alike_wide target c (joins c h legal (owed_narrow (c - 1) owed) alike)

      quiet_wide : OwesNothingBelow up port end → OwesNothingBelow up wide end
      quiet_wide quiet c h legal owed answered = rw bursts (quiet c h legal (owed_narrow c owed) answered)

      going_wide : (rank : ℕ → ℕ) (largest : ℕ) → KeepsGoing target up port rank largest end → KeepsGoing target up wide rank largest end
      going_wide rank largest going = record {
        legal = going.legal;
        legal_down = legal_wide end going.legal_down;
        falls = record {
          bounded = going.falls.bounded;
          falls = λ c h work still free. going.falls.falls c h (rw bursts at work) still (rw bursts at free);
          stays = λ c h work still. going.falls.stays c h (rw bursts at work) still;
        };
        words = λ c h is. rw bursts (going.words c h is);
      }

      holds_wide : (hold : ℕ) → HoldsBack hold target up port end → HoldsBack hold target up wide end
      holds_wide hold holds c h = rw bursts (holds c h)

      straight_wide : (ahead : ℕ → Bool) → GoesStraightThrough ahead target up port end → GoesStraightThrough ahead target up wide end
      straight_wide ahead straight = record {
        shown = λ c h same plain next. rw bursts (straight.shown c h same plain (rw bursts at next));
        accepted = λ c h same plain next. straight.accepted c h same plain (rw bursts at next);
        kept = λ c h same plain taken. rw bursts (straight.kept c h same plain taken);
      }

      prompt_wide : (few : ℕ) (may_burst : Bool) → IsShownPromptly few may_burst target up port end → IsShownPromptly few may_burst target up wide end
      prompt_wide few may_burst prompt = record {
        shown = λ c number m h got waits taken. rw bursts (prompt.shown c number m h got waits (rw bursts at taken));
        empty = λ c d later h ends none empty. prompt.empty c d later h ends none (rw bursts at empty);
      }

      steps_wide : (ahead : Bool) → GoesInStep ahead target up port end → GoesInStep ahead target up wide end
      steps_wide ahead steps = record {
        accepts = λ c h. rw bursts (steps.accepts c h);
        full = λ c h next shown. rw bursts (steps.full c h (rw bursts at next) shown);
        plain = λ c h next. rw bursts (steps.plain c h (rw bursts at next));
        at_once = λ c h plain taken. rw bursts (steps.at_once c h plain taken);
        quiet = λ c h answered. rw bursts (steps.quiet c h answered);
      }

      begins_wide : (few : ℕ) (may_burst : Bool) → BeginsBelow few may_burst target up port end → BeginsBelow few may_burst target up wide end
      begins_wide few may_burst begins = record {
        taken = λ c h first taken. rw bursts (begins.taken c h first taken);
        waits = λ c h first still before owed. rw bursts (begins.waits c h first still (rw bursts at before) owed);
        empty = λ c h shown. begins.empty c h (rw bursts at shown);
      }

      begins_narrow : (few : ℕ) (may_burst : Bool) → BeginsBelow few may_burst target wide up end → BeginsBelow few may_burst target port up end
      begins_narrow few may_burst begins = record {
        taken = λ c h first taken. rw bursts at (begins.taken c h (rw bursts first) taken);
        waits = λ c h first still before owed. rw bursts at (begins.waits c h (rw bursts first) still (rw bursts before) (rw bursts owed));
        empty = λ c h shown. rw bursts at (begins.empty c h shown);
      }

-- a wire is a link, as its port alone is one
pub wire_link : (target : Target) (up down : Port) (end : ℕ) → IsWire up down → IsLink (pass_form target) up up end → IsLink (pass_form target) up down end
wire_link target up down end wire link = subst (λ p. IsLink (pass_form target) up p end) wire.same (widened down.shape.burst_bits wire.longer)
  where
    widened : (bits : ℕ) → up.shape.burst_bits ≤ bits → IsLink (pass_form target) up (with_bursts bits up) end
    widened bits longer = record {
      row = row_wide bits up longer target up end 0 link.row;
      words = λ is. words_wide bits up longer target up end (link.words is);
      lanes = lanes_wide bits up longer target up end false link.lanes;
      joins = joins_wide bits up longer target up end link.joins;
      quiet = quiet_wide bits up longer target up end link.quiet;
      goes_on = λ legal owed alike. goes (link.goes_on legal (owed_narrow bits up end owed) alike);
    }
      where
        goes : RowGoesOn target end (record { largest = 0; hold = 0 } ∷ []) up up → RowGoesOn target end (record { largest = 0; hold = 0 } ∷ []) up (with_bursts bits up)
        goes (further one at_end) = further (record {
          rank = one.rank;
          going = going_wide bits up longer target up end one.rank 0 one.going;
          holds = holds_wide bits up longer target up end 0 one.holds;
        }) at_end

-- what stands behind a wire, or before one
module _ (up down : Port) (wire : IsWire up down) where
  abbrev bits_below : ℕ
  bits_below = down.shape.burst_bits

  pub wire_stays : (P : Port → Type 0) → P (with_bursts bits_below up) → P down
  wire_stays P holds = subst P wire.same holds

  pub wire_taken : (c : ℕ) → taken_at down c ≡ taken_at up c
  wire_taken c = subst (λ p. taken_at p c ≡ taken_at up c) wire.same (taken_same bits_below up c)

  pub wire_operations : (target : Target) (c : ℕ) → length (operations_among target down.shape (taken_at down c)) ≡ length (operations_among target up.shape (taken_at up c))
  wire_operations target c = subst (λ p. length (operations_among target p.shape (taken_at p c)) ≡ length (operations_among target up.shape (taken_at up c))) wire.same (ap (λ l. length (operations_among target up.shape l)) (taken_same bits_below up c))

  pub ends_behind_wire : (target : Target) (c : ℕ) → EndsThere target up c → EndsThere target down c
  ends_behind_wire target c there = subst (λ p. EndsThere target p c) wire.same (record { shown = there.shown; ends = rw (bursts bits_below up) there.ends; acts = rw (bursts bits_below up) there.acts })

  pub shown_behind_wire : (target : Target) (c : ℕ) → ShowsOperation target up c → ShowsOperation target down c
  shown_behind_wire target c there = subst (λ p. ShowsOperation target p c) wire.same (there.0, rw (bursts bits_below up) there.1)

  pub waits_above_wire : (system : System) (run : Run) (agent host number c : ℕ) → WaitsThere system run agent down host number c → WaitsThere system run agent up host number c
  waits_above_wire system run agent host number c waits = record {
    presented = waits.presented;
    counted = waits.counted;
    earlier = waits.earlier;
    untaken = (let same = wire_operations (target_of system agent) c in let few = waits.untaken in omega (arith, same, few));
  }

  pub owed_above_wire : (end : ℕ) → AnswersAreOwed down end → AnswersAreOwed up end
  owed_above_wire end owed = owed_narrow bits_below up end (subst (λ p. AnswersAreOwed p end) (sym wire.same) owed)

  module _ (target : Target) (end : ℕ) where
    pub goes_behind_wire : (top : Port) (rank : ℕ → ℕ) (largest : ℕ) → KeepsGoing target top up rank largest end → KeepsGoing target top down rank largest end
    goes_behind_wire top rank largest going = subst (λ p. KeepsGoing target top p rank largest end) wire.same (going_wide bits_below up wire.longer target top end rank largest going)

    pub straight_behind_wire : (top : Port) (ahead : ℕ → Bool) → GoesStraightThrough ahead target top up end → GoesStraightThrough ahead target top down end
    straight_behind_wire top ahead straight = subst (λ p. GoesStraightThrough ahead target top p end) wire.same (straight_wide bits_below up wire.longer target top end ahead straight)

    pub prompt_behind_wire : (top : Port) (few : ℕ) (may_burst : Bool) → IsShownPromptly few may_burst target top up end → IsShownPromptly few may_burst target top down end
    prompt_behind_wire top few may_burst prompt = subst (λ p. IsShownPromptly few may_burst target top p end) wire.same (prompt_wide bits_below up wire.longer target top end few may_burst prompt)

    pub steps_behind_wire : (top : Port) (ahead : Bool) → GoesInStep ahead target top up end → GoesInStep ahead target top down end
    steps_behind_wire top ahead steps = subst (λ p. GoesInStep ahead target top p end) wire.same (steps_wide bits_below up wire.longer target top end ahead steps)

    pub begins_behind_wire : (top : Port) (few : ℕ) (may_burst : Bool) → BeginsBelow few may_burst target top up end → BeginsBelow few may_burst target top down end
    begins_behind_wire top few may_burst begins = subst (λ p. BeginsBelow few may_burst target top p end) wire.same (begins_wide bits_below up wire.longer target top end few may_burst begins)

    pub begins_before_wire : (bottom : Port) (few : ℕ) (may_burst : Bool) → BeginsBelow few may_burst target down bottom end → BeginsBelow few may_burst target up bottom end
    begins_before_wire bottom few may_burst begins = begins_narrow bits_below up wire.longer target bottom end few may_burst (subst (λ p. BeginsBelow few may_burst target p bottom end) (sym wire.same) begins)

-- the port itself is one
pub wire_self : (port : Port) → IsWire port port
wire_self port = record { same = refl; longer = le_refl port.shape.burst_bits }

-- two wires in a row are one
pub wire_chain : (up middle down : Port) → IsWire up middle → IsWire middle down → IsWire up down
wire_chain up middle down first second = record {
  same = ap (with_bursts down.shape.burst_bits) first.same ∙ second.same;
  longer = (let above = first.longer in let below = second.longer in omega (arith, above, below));
}
