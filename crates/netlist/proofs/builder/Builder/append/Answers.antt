use Rattle.std.proofs.Common.{◌≡◌, ℕ, ◌<◌, ◌^◌, ◌∙◌, length, arith, ap, sym, subst, refl, ◌⊎◌, true}
use Rattle.netlist.specs.Netlists.{Netlist, IsWellMade, IsNet, IsWaiting, appended, line_with}
use Rattle.netlist.specs.Nets.{NetValue, net_of}
use Rattle.netlist.specs.Runs.{NetHolds, Always}
use Rattle.netlist.specs.Longer.{Extends}
use Rattle.netlist.proofs.Growth.{IsWellMade-appended, width-last, Always-appended, Extends-appended, pushed, unpushed, Extends-same, waiting-appended, waiting-newly}
use Rattle.netlist.proofs.builder.Builder.append.Goals as goal

pub invariant_of-self-2 : goal.invariant_of-self-2
invariant_of-self-2 c =
    let well : IsWellMade c.args.self.now = subst IsWellMade c.self.view_is c.self.invariant in
    let count : length c.self.inside.lines.items ≡ length c.args.self.now.lines = ap (λ (b : Netlist). length b.lines) c.self.view_is in
    let few : length c.args.self.now.lines < 2 ^ 20 = omega arith in
    let new = pushed _ c.args.self.now c.push.new.self.items (line_with c.args.width c.args.equation c.args.waits) c.self.view_is c.in_ok-push.ensures.items in
    subst IsWellMade (sym new) (IsWellMade-appended c.args.self.now (line_with c.args.width c.args.equation c.args.waits) well few c.requires.sound c.requires.computed)

pub returns-clause-net : goal.returns-clause-net
returns-clause-net c =
    let count : length c.args.self.now.lines ≡ length c.self.inside.lines.items = ap (λ (b : Netlist). length b.lines) (sym c.self.view_is) in
    let number : length c.args.self.now.lines ≡ c.len-number.result = omega arith in
    let is : net_of (length c.args.self.now.lines) c.args.width ≡ c.new.result = ap (λ n. net_of n c.args.width) number ∙ sym c.new.ensures in
    let new = pushed _ c.args.self.now c.push.new.self.items (line_with c.args.width c.args.equation c.args.waits) c.self.view_is c.in_ok-push.ensures.items in
    subst (λ (b : Netlist). IsNet b c.new.result × (c.new.result.width ≡ c.args.width)) (sym new)
    (subst (λ (n : NetValue). IsNet (appended c.args.self.now (line_with c.args.width c.args.equation c.args.waits)) n × (n.width ≡ c.args.width)) is
    (width-last c.args.self.now.lines (line_with c.args.width c.args.equation c.args.waits), refl))

pub returns-clause-value : goal.returns-clause-value
returns-clause-value c =
    let count : length c.args.self.now.lines ≡ length c.self.inside.lines.items = ap (λ (b : Netlist). length b.lines) (sym c.self.view_is) in
    let number : length c.args.self.now.lines ≡ c.len-number.result = omega arith in
    let is : length c.args.self.now.lines ≡ c.new.result.number = number ∙ sym (ap (λ (n : NetValue). n.number) c.new.ensures) in
    let new = pushed _ c.args.self.now c.push.new.self.items (line_with c.args.width c.args.equation c.args.waits) c.self.view_is c.in_ok-push.ensures.items in
    subst (λ (b : Netlist). Always b (λ cycle. NetHolds b.lines cycle c.new.result.number (line_with c.args.width c.args.equation c.args.waits))) (sym new)
    (subst (λ n. Always (appended c.args.self.now (line_with c.args.width c.args.equation c.args.waits)) (λ cycle. NetHolds (appended c.args.self.now (line_with c.args.width c.args.equation c.args.waits)).lines cycle n (line_with c.args.width c.args.equation c.args.waits))) is
    (Always-appended c.args.self.now (line_with c.args.width c.args.equation c.args.waits)))

pub returns-clause-extends : goal.returns-clause-extends
returns-clause-extends c =
    let new = pushed _ c.args.self.now c.push.new.self.items (line_with c.args.width c.args.equation c.args.waits) c.self.view_is c.in_ok-push.ensures.items in
    subst (λ (b : Netlist). Extends c.args.self.now b) (sym new) (Extends-appended c.args.self.now (line_with c.args.width c.args.equation c.args.waits))

pub returns-clause-waits : goal.returns-clause-waits
returns-clause-waits c n h =
    let new = pushed _ c.args.self.now c.push.new.self.items (line_with c.args.width c.args.equation c.args.waits) c.self.view_is c.in_ok-push.ensures.items in
    subst (λ (b : Netlist). IsWaiting b n) (sym new) (waiting-appended c.args.self.now (line_with c.args.width c.args.equation c.args.waits) n h)

pub returns-clause-newly : goal.returns-clause-newly
returns-clause-newly c =
    let new = pushed _ c.args.self.now c.push.new.self.items (line_with c.args.width c.args.equation c.args.waits) c.self.view_is c.in_ok-push.ensures.items in
    subst (λ (b : Netlist). (n : ℕ) → IsWaiting b n → IsWaiting c.args.self.now n ⊎ (c.args.waits ≡ true) × (n ≡ length c.args.self.now.lines)) (sym new)
    (waiting-newly c.args.self.now (line_with c.args.width c.args.equation c.args.waits))

pub returns-in_err-push-clause-extends : goal.returns-in_err-push-clause-extends
returns-in_err-push-clause-extends c = Extends-same c.args.self.now _ (unpushed _ c.args.self.now c.push.new.self.items c.self.view_is c.in_err-push.ensures.items)
