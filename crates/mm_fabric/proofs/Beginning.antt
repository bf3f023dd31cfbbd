-- One more host that is begun.
use Rattle.std.proofs.Common.{◌≡◌, ℕ, zero, suc, ◌+◌, ◌*◌, ◌<◌, ◌⊎◌, List, [], ◌∷◌, ◌++◌, get_or, length, map, take, refl, sym, subst, ap, ◌∙◌, inl, inr, arith}
use Rattle.std.proofs.lemmas.List.{map-append, take_more, length-map, length-take-le}
use Rattle.link_rules.specs.Plans.{PlanTable}
use Rattle.netlist.specs.Netlists.{Netlist, IsWaiting}
use Rattle.netlist.specs.Longer.{Extends}
use Rattle.net_parts.specs.Growth.{GrowsBy, StillWait, WaitsBeside, AreMadeBetween}
use Rattle.net_parts.specs.Laws.{grows_none, grows_within}
use Rattle.command_nets.specs.declared.nets.CommandNets.{CommandNets}
use Rattle.command_nets.specs.Nets.{Widths}
use Rattle.command_nets.specs.Groups.{command_lasts}
use Rattle.mm_route.specs.Shown.{AreCommandsOf}
use Rattle.mm_route.specs.Forward.{forward_lasts}
use Rattle.mm_host.specs.Forms.{host_lasts}
use Rattle.mm_fabric.specs.Trunks.{owns, trunk_lasts}
use Rattle.mm_fabric.specs.declared.begun.HostEnd.{HostEnd}
use Rattle.mm_fabric.specs.declared.begun.BegunHost.{BegunHost}
use Rattle.mm_fabric.specs.Begun.{IsHostEnd, AreHostEnds, IsBegun, AreBegun, IsOfAny, AreApart, end_of, begun_nets, HaveBegunSoFar}

-- ---- what is given

end_lasts : (plan : PlanTable) (old new : Netlist) (number : ℕ) (end : HostEnd) → IsHostEnd plan old number end → Extends old new → IsHostEnd plan new number end
end_lasts plan old new number end h e = record { port = h.port; bounded = h.bounded; nets = host_lasts old new end.port end.nets h.nets e; some = h.some; few = h.few }

end_from : (plan : PlanTable) (netlist : Netlist) (from k : ℕ) (ends : List HostEnd) (end : HostEnd) → AreHostEnds plan netlist from ends → k < length ends → end ≡ get_or ends k end → IsHostEnd plan netlist (from + k) end
end_from plan netlist from k [] end h lt e = absurd (omega arith)
end_from plan netlist from zero (first ∷ later) end h lt e = subst (IsHostEnd plan netlist (from + 0)) (sym e) (subst (λ n. IsHostEnd plan netlist n first) (omega arith) h.0)
end_from plan netlist from (suc k) (first ∷ later) end h lt e = subst (λ n. IsHostEnd plan netlist n end) (omega arith) (end_from plan netlist (from + 1) k later end h.1 (omega arith) e)

pub end_at : (plan : PlanTable) (old now : Netlist) (k : ℕ) (ends : List HostEnd) (end : HostEnd) → AreHostEnds plan old 0 ends → Extends old now → k < length ends → end ≡ get_or ends k end → IsHostEnd plan now k end
end_at plan old now k ends end h e lt is = end_lasts plan old now k end (subst (λ n. IsHostEnd plan old n end) (omega arith) (end_from plan old 0 k ends end h lt is)) e

-- ---- what is made, in a longer netlist

commands_last : (old new : Netlist) (widths : Widths) (commands : List CommandNets) → AreCommandsOf old widths commands → Extends old new → AreCommandsOf new widths commands
commands_last old new widths [] h e = tt
commands_last old new widths (command ∷ commands) h e = ((command_lasts old new command e h.0.0, h.0.1), commands_last old new widths commands h.1 e)

pub begun_lasts : (plan : PlanTable) (old new : Netlist) (number : ℕ) (begun : BegunHost) → IsBegun plan old number begun → Extends old new → ((n : ℕ) → owns begun.trunk n → IsWaiting old n → IsWaiting new n) → IsBegun plan new number begun
begun_lasts plan old new number begun h e w = record {
  port = h.port;
  bounded = h.bounded;
  routes = h.routes;
  trunk = trunk_lasts old new begun.port (length begun.routes) begun.trunk h.trunk e w;
  bounds = h.bounds;
  forward = forward_lasts begun.routes number begun.trunk.host.command begun.commands.items begun.trunk.route old new h.forward e;
  commands = commands_last old new _ begun.commands.items h.commands e;
}

pub all_begun_last : (plan : PlanTable) (old new : Netlist) (number : ℕ) (begun : List BegunHost) → AreBegun plan old number begun → Extends old new → ((n : ℕ) → IsOfAny begun n → IsWaiting old n → IsWaiting new n) → AreBegun plan new number begun
all_begun_last plan old new number [] h e w = tt
all_begun_last plan old new number (first ∷ later) h e w = (begun_lasts plan old new number first h.0 e (λ n o. w n (inl o)), all_begun_last plan old new (number + 1) later h.1 e (λ n o. w n (inr o)))

-- ---- one more

begun_more : (plan : PlanTable) (netlist : Netlist) (from number : ℕ) (begun : List BegunHost) (last : BegunHost) → AreBegun plan netlist from begun → number ≡ from + length begun → IsBegun plan netlist number last → AreBegun plan netlist from (begun ++ last ∷ [])
begun_more plan netlist from number [] last h e l = (subst (λ n. IsBegun plan netlist n last) (e ∙ omega arith) l, tt)
begun_more plan netlist from number (first ∷ later) last h e l = (h.0, begun_more plan netlist (from + 1) number later last h.1 (omega (arith, e)) l)

pub of_more : (begun : List BegunHost) (last : BegunHost) (n : ℕ) → IsOfAny (begun ++ last ∷ []) n → IsOfAny begun n ⊎ owns last.trunk n
of_more [] last n (inl o) = inr o
of_more [] last n (inr o) = absurd o
of_more (first ∷ later) last n (inl o) = inl (inl o)
of_more (first ∷ later) last n (inr o) = elim (of_more later last n o) [ inl before ↦ inl (inr before) | inr own ↦ inr own ]

of_before : (begun : List BegunHost) (last : BegunHost) (n : ℕ) → IsOfAny begun n → IsOfAny (begun ++ last ∷ []) n
of_before [] last n o = absurd o
of_before (first ∷ later) last n (inl o) = inl o
of_before (first ∷ later) last n (inr o) = inr (of_before later last n o)

of_last : (begun : List BegunHost) (last : BegunHost) (n : ℕ) → owns last.trunk n → IsOfAny (begun ++ last ∷ []) n
of_last [] last n o = inl o
of_last (first ∷ later) last n o = inr (of_last later last n o)

apart_more : (begun : List BegunHost) (last : BegunHost) → AreApart begun → ((n : ℕ) → IsOfAny begun n → ¬ owns last.trunk n) → AreApart (begun ++ last ∷ [])
apart_more [] last h a = ((λ n o none. none), tt)
apart_more (first ∷ later) last h a = (
  (λ n o other. elim (of_more later last n other) [ inl before ↦ h.0 n o before | inr own ↦ a n (inl o) own ]),
  apart_more later last h.1 (λ n o. a n (inr o)),
)

-- what a host's own call leaves
pub record IsOneMore (plan : PlanTable) (now new : Netlist) (number : ℕ) (end : HostEnd) (last : BegunHost) : Type 0 where
  pub is : IsBegun plan new number last
  pub end_is : end_of last ≡ end
  pub owned : AreMadeBetween (owns last.trunk) now new
  pub newly : WaitsBeside (owns last.trunk) now new
  pub grows : GrowsBy begun_nets now new
  pub waits : StillWait now new

pub none_begun : (plan : PlanTable) (old : Netlist) (ends : List HostEnd) → HaveBegunSoFar plan old old ends [] 0
none_begun plan old ends = record {
  begun_are = record { ends_are = refl; each = tt; apart = tt; owned = λ n o. absurd o; newly = λ n w. inl w };
  grows = grows_none old;
  waits = λ n w. w;
}

as_many : (begun : List BegunHost) (ends : List HostEnd) (count : ℕ) → map end_of begun ≡ take count ends → count < length ends → length begun ≡ count
as_many begun ends count e lt = sym (length-map begun end_of) ∙ ap (λ (es : List HostEnd). length es) e ∙ length-take-le count ends (omega arith)

pub one_more_begun : (plan : PlanTable) (old now new : Netlist) (ends : List HostEnd) (begun : List BegunHost) (count : ℕ) (end : HostEnd) (last : BegunHost) → HaveBegunSoFar plan old now ends begun count → count < length ends → end ≡ get_or ends count end →
    IsOneMore plan now new count end last → HaveBegunSoFar plan old new ends (begun ++ last ∷ []) (count + 1)
one_more_begun plan old now new ends begun count end last h lt is one =
    let many = as_many begun ends count h.begun_are.ends_are lt in
    let sooner = h.grows.extends.count in
    let later = one.grows.extends.count in
    record {
      begun_are = record {
        ends_are = map-append end_of begun (last ∷ []) ∙ ap (λ es. es ++ end_of last ∷ []) h.begun_are.ends_are ∙ ap (λ e. take count ends ++ e ∷ []) (one.end_is ∙ is) ∙ sym (take_more ends count end lt);
        each = begun_more plan new 0 count begun last (all_begun_last plan now new 0 begun h.begun_are.each one.grows.extends (λ n o w. one.waits n w)) (omega (arith, many)) one.is;
        apart = apart_more begun last h.begun_are.apart (λ n o own. (let first = h.begun_are.owned n o in let second = one.owned n own in omega (arith, first.1, second.0)));
        owned = λ n o. elim (of_more begun last n o) [
          | inl before ↦ (let made = h.begun_are.owned n before in (made.0, omega (arith, made.1, later)))
          | inr own ↦ (let made = one.owned n own in (omega (arith, made.0, sooner), made.1))
        ];
        newly = λ n w. elim (one.newly n w) [
          | inl before ↦ (elim (h.begun_are.newly n before) [ inl first ↦ inl first | inr of ↦ inr (of_before begun last n of) ])
          | inr own ↦ inr (of_last begun last n own)
        ];
      };
      grows = grows_within (begun_nets * count) begun_nets _ old now new h.grows one.grows (omega arith);
      waits = λ n w. one.waits n (h.waits n w);
    }
