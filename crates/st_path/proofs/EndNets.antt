-- The nets at the ends of a path.
use Rattle.std.proofs.Common.{◌≡◌, ℕ, zero, suc, ◌≤◌, ◌<◌, Bool, true, false, ◌||◌, ◌==◌, Option, Some, None, refl, ap, sym, ◌∙◌, subst, nat_lt, arith}
use Rattle.std.specs.Prelude.{unwrap_or, if◌then◌else◌, max}
use Rattle.std.proofs.lemmas.Bool.{ltb-true, ltb-false, eq-eqb, le-ltb}
use Rattle.netlist.specs.Nets.{NetValue}
use Rattle.netlist.specs.Netlists.{Netlist, IsNet}
use Rattle.netlist.specs.Longer.{Extends}
use Rattle.stream_runs.specs.Ends.{Declared, side_of}
use Rattle.stage_core.specs.declared.stream.StreamNets.{StreamNets}
use Rattle.stage_core.specs.Beats.{widths_of, AreBeatNets}
use Rattle.net_parts.specs.Nets.{IsBit}
use Rattle.net_parts.specs.Laws.{net_lasts}
use Rattle.st_path.specs.declared.ends.SourceNets.{SourceNets}
use Rattle.st_path.specs.Joining.{FitsPorts}
use Rattle.st_path.specs.Ends.{IsNetIf, AreSourceNets, IsNetWhere, ArePathNets}
use Rattle.st_path.specs.Between.{beat_of, IsReadyOf, FitSide, AreStageNets}

port_net : (present : Bool) (width : ℕ) (old new : Netlist) (port : Option NetValue) (low : NetValue) → Extends old new → IsBit new low → IsNetIf present width old port → IsNet new (unwrap_or port low)
port_net true width old new (Some net) low e bit h = e.nets net.number net.width h.is_net
port_net true width old new None low e bit h = absurd h
port_net false width old new port low e bit h = subst (λ o. IsNet new (unwrap_or o low)) (sym h) bit.is_net

port_bit : (present : Bool) (old new : Netlist) (port : Option NetValue) (low : NetValue) → Extends old new → IsBit new low → IsNetIf present 1 old port → IsBit new (unwrap_or port low)
port_bit true old new (Some net) low e bit h = net_lasts old new net 1 e h
port_bit true old new None low e bit h = absurd h
port_bit false old new port low e bit h = subst (λ o. IsBit new (unwrap_or o low)) (sym h) bit

pub beat_nets : (old new : Netlist) (source : Declared) (from : SourceNets) (low : NetValue) → Extends old new → IsBit new low → AreSourceNets old source from → AreBeatNets new (beat_of from low)
beat_nets old new source from low e bit h = record {
  valid = net_lasts old new from.valid 1 e h.valid;
  word = e.nets from.word.number from.word.width h.word.is_net;
  channel = port_net (nat_lt 0 source.channel_bits) source.channel_bits old new from.channel low e bit h.channel;
  error = port_net (nat_lt 0 source.error_bits) source.error_bits old new from.error low e bit h.error;
  first = port_bit source.packets old new from.startofpacket low e bit h.startofpacket;
  last = port_bit source.packets old new from.endofpacket low e bit h.endofpacket;
  empty = port_net (nat_lt 0 source.empty_bits) source.empty_bits old new from.empty low e bit h.empty;
}

-- ---- the widths at the source

port_width : (bits : ℕ) (netlist : Netlist) (port : Option NetValue) (low : NetValue) → low.width ≡ 1 → IsNetIf (nat_lt 0 bits) bits netlist port → (unwrap_or port low).width ≡ max bits 1
port_width bits netlist port low one h = by_port (nat_lt 0 bits) refl port h
  where
    by_port : (b : Bool) → nat_lt 0 bits ≡ b → (o : Option NetValue) → IsNetIf b bits netlist o → (unwrap_or o low).width ≡ max bits 1
    by_port true is (Some net) h = (let some = ltb-true 0 bits is in let wide = h.has_width in omega (arith, some, wide))
    by_port true is None h = absurd h
    by_port false is o h = (let none = ltb-false 0 bits is in ap (λ o. (unwrap_or o low).width) h ∙ one ∙ omega (arith, none))

pub source_widths : (netlist : Netlist) (source : Declared) (from : SourceNets) (low : NetValue) → FitsPorts source → low.width ≡ 1 → AreSourceNets netlist source from → FitSide (side_of source) source (widths_of (beat_of from low))
source_widths netlist source from low ports one h = record {
  word = h.word.has_width;
  channel = port_width source.channel_bits netlist from.channel low one h.channel;
  error = λ some. (let wide = port_width source.error_bits netlist from.error low one h.error in omega (arith, some, wide));
  empty = (let wide = port_width source.empty_bits netlist from.empty low one h.empty in let few = ports.empty in omega (arith, wide, few));
}

pub empty_width : (netlist : Netlist) (source : Declared) (from : SourceNets) (low : NetValue) → low.width ≡ 1 → AreSourceNets netlist source from → 0 < source.empty_bits → (unwrap_or from.empty low).width ≡ source.empty_bits
empty_width netlist source from low one h some = let wide = port_width source.empty_bits netlist from.empty low one h.empty in omega (arith, wide, some)

-- ---- the nets at the sink

driven_net : (bits : ℕ) (netlist : Netlist) (made : NetValue) → (0 < bits → made.width ≡ bits) → IsNet netlist made → IsNetWhere (nat_lt 0 bits) bits netlist made
driven_net bits netlist made wide h = by_port (nat_lt 0 bits) refl
  where
    by_port : (b : Bool) → nat_lt 0 bits ≡ b → IsNetWhere b bits netlist made
    by_port true is = record { is_net = h; has_width = wide (ltb-true 0 bits is) }
    by_port false is = tt

where_lasts : (present : Bool) (bits : ℕ) (old new : Netlist) (net : NetValue) → Extends old new → IsNetWhere present bits old net → IsNetWhere present bits new net
where_lasts true bits old new net e h = record { is_net = e.nets net.number net.width h.is_net; has_width = h.has_width }
where_lasts false bits old new net e h = tt

pub path_nets : (old middle new : Netlist) (source sink : Declared) (made : StreamNets) (fitted dropped : NetValue) → Extends old new → Extends middle new → AreStageNets old source sink made
    → IsNetWhere (nat_lt 0 sink.empty_bits) sink.empty_bits middle fitted → IsBit new dropped → ArePathNets new sink (record { ready = made.ready; beat = record made.beat { empty = fitted }; dropped = dropped })
path_nets old middle new source sink made fitted dropped e more stage fits bit = record {
  ready = net_lasts old new made.ready 1 e stage.ready;
  valid = net_lasts old new made.beat.valid 1 e stage.beat.valid;
  word = record { is_net = e.nets _ _ stage.beat.word; has_width = stage.widths.word };
  channel = driven_net sink.channel_bits new made.beat.channel (λ some. (let wide = stage.widths.channel in omega (arith, wide, some))) (e.nets _ _ stage.beat.channel);
  error = driven_net sink.error_bits new made.beat.error stage.widths.error (e.nets _ _ stage.beat.error);
  startofpacket = net_lasts old new made.beat.first 1 e stage.beat.first;
  endofpacket = net_lasts old new made.beat.last 1 e stage.beat.last;
  empty = where_lasts (nat_lt 0 sink.empty_bits) sink.empty_bits middle new fitted more fits;
  dropped = bit;
}

-- ---- how many nets the ends add

pub fits_few : (bits width : ℕ) → (if (bits == 0) || (width == bits) then 0 else 2) ≤ 2
fits_few bits width = by_test ((bits == 0) || (width == bits))
  where
    by_test : (b : Bool) → (if b then 0 else 2) ≤ 2
    by_test true = omega arith
    by_test false = omega arith

none_where : (a b : Bool) → b ≡ true → ◌≡◌ {A = ℕ} (if a || b then 0 else 2) 0
none_where true b is = refl
none_where false true is = refl
none_where false false is = absurd (cc)

pub fits_none : (bits width : ℕ) → (0 < bits → width ≡ bits) → ◌≡◌ {A = ℕ} (if (bits == 0) || (width == bits) then 0 else 2) 0
fits_none zero width same = refl
fits_none (suc bits) width same = none_where (suc bits == 0) (width == suc bits) (eq-eqb width (suc bits) (same (omega arith)))

pub drops_few : (m n : ℕ) → (if nat_lt m n then 4 else 0) ≤ 4
drops_few m n = by_test (nat_lt m n)
  where
    by_test : (b : Bool) → (if b then 4 else 0) ≤ 4
    by_test true = omega arith
    by_test false = omega arith

pub drops_none : (m n : ℕ) → n ≤ m → ◌≡◌ {A = ℕ} (if nat_lt m n then 4 else 0) 0
drops_none m n fewer = by_test (nat_lt m n) (le-ltb m n fewer)
  where
    by_test : (b : Bool) → b ≡ false → ◌≡◌ {A = ℕ} (if b then 4 else 0) 0
    by_test true is = absurd (cc)
    by_test false is = refl

pub ready_lasts : (old new : Netlist) (port : Option NetValue) (net : NetValue) → Extends old new → IsReadyOf old port net → IsReadyOf new port net
ready_lasts old new (Some port) net e h = h
ready_lasts old new None net e h = λ cycle v. h cycle (e.valuations cycle v)
