use Rattle.std.proofs.Common.{◌≡◌, ◌-◌, inl, inr, length, refl, sym, ap, ◌∙◌, arith}
use Rattle.netlist.specs.Netlists.{register_of}
use Rattle.net_parts.specs.Laws.{extends_twice, net_lasts, register_lasts, new_register}
use Rattle.netlist.specs.Nets.{NetValue}
use Rattle.narrowed_netlists.proofs.copies.copied_register.Goals as goal

pub returns : goal.returns
returns c next =
    let old = c.args.builder.now in
    let fits = c.requires in
    let narrow = c.narrowed_value.ensures.width in
    let core_is = c.in_ok-core.ensures.net.1 in
    let some_bit = fits.some_bit in
    let first : c.in_ok-core.core.number ≡ length old.lines = ap (λ (n : NetValue). n.number) c.in_ok-core.ensures.line.1 in
    record {
      net_is = record { is_net = c.in_ok-net.ensures.net_is.is_net; has_width = (let wide = c.in_ok-net.ensures.net_is.has_width in omega (arith, wide, core_is, narrow, some_bit)) };
      kept = record {
        core_is = net_lasts c.reg.new.self c.widened.new.builder c.in_ok-core.core (c.args.reset.width - c.args.gap.zeros) c.in_ok-net.ensures.grows.extends (record { is_net = c.in_ok-core.ensures.net.0; has_width = core_is ∙ narrow });
        register = register_lasts c.reg.new.self c.widened.new.builder c.in_ok-core.core.number c.in_ok-net.ensures.grows.extends
            (new_register old c.reg.new.self c.in_ok-core.core.number (register_of (length old.lines) c.narrowed_value.result) c.in_ok-core.ensures.line.0 first refl);
        wide = c.in_ok-net.ensures.is;
        starts = λ run cycles r lt. c.in_ok-core.ensures.value run cycles (c.in_ok-net.ensures.grows.extends.runs run cycles r) lt ∙ c.narrowed_value.ensures.bits;
      };
      extends = extends_twice old c.reg.new.self c.widened.new.builder c.reg.ensures.extends c.in_ok-net.ensures.grows.extends;
      drivers = c.in_ok-net.ensures.grows.drivers ∙ c.reg.ensures.drivers;
      memories = c.in_ok-net.ensures.grows.memories ∙ c.reg.ensures.memories;
      still_wait = λ n w. c.in_ok-net.ensures.grows.waits n (c.reg.ensures.still_wait n w);
      newly = λ n w. elim (c.reg.ensures.newly n (c.in_ok-net.ensures.grows.no_more_wait n w)) [
        | inl was ↦ inl was
        | inr it ↦ inr (it ∙ sym first)
      ];
      core_waits = c.in_ok-net.ensures.grows.waits c.in_ok-core.core.number c.in_ok-core.ensures.waits;
      core_is_new = omega (arith, first);
    }
