use Rattle.std.proofs.Common.{◌*◌}
use Rattle.interconnect.proofs.Driving.{is_among}
use Rattle.interconnect.proofs.Inputs.{source_at, valid_input, data_input, channel_input, error_input, start_input, end_input, empty_input, valid_some, data_some, bounded_at, are_inputs, are_nets}
use Rattle.interconnect.proofs.streams.source_nets.Goals as goal

pub input_of-requires-clause-input : goal.input_of-requires-clause-input
input_of-requires-clause-input c =
    let source = source_at c.args.plan.now.system c.args.end c.requires.source.0 c.ports_are_known.ensures (is_among c.args.plan.now.system c.args.end c.requires.end) c.requires.source.1 in
    (1, valid_input c.args.plan.now.system c.args.end c.requires.source.0 source)

pub input_of-requires-2-clause-input : goal.input_of-requires-2-clause-input
input_of-requires-2-clause-input c =
    let source = source_at c.args.plan.now.system c.args.end c.requires.source.0 c.ports_are_known.ensures (is_among c.args.plan.now.system c.args.end c.requires.end) c.requires.source.1 in
    ((c.requires.source.0.symbols * c.requires.source.0.symbol_bits), data_input c.args.plan.now.system c.args.end c.requires.source.0 source)

pub input_of-requires-3-clause-input : goal.input_of-requires-3-clause-input
input_of-requires-3-clause-input c =
    let source = source_at c.args.plan.now.system c.args.end c.requires.source.0 c.ports_are_known.ensures (is_among c.args.plan.now.system c.args.end c.requires.end) c.requires.source.1 in
    (c.requires.source.0.channel_bits, channel_input c.args.plan.now.system c.args.end c.requires.source.0 source)

pub input_of-requires-4-clause-input : goal.input_of-requires-4-clause-input
input_of-requires-4-clause-input c =
    let source = source_at c.args.plan.now.system c.args.end c.requires.source.0 c.ports_are_known.ensures (is_among c.args.plan.now.system c.args.end c.requires.end) c.requires.source.1 in
    (c.requires.source.0.error_bits, error_input c.args.plan.now.system c.args.end c.requires.source.0 source)

pub input_of-requires-5-clause-input : goal.input_of-requires-5-clause-input
input_of-requires-5-clause-input c =
    let source = source_at c.args.plan.now.system c.args.end c.requires.source.0 c.ports_are_known.ensures (is_among c.args.plan.now.system c.args.end c.requires.end) c.requires.source.1 in
    (1, start_input c.args.plan.now.system c.args.end c.requires.source.0 source)

pub input_of-requires-6-clause-input : goal.input_of-requires-6-clause-input
input_of-requires-6-clause-input c =
    let source = source_at c.args.plan.now.system c.args.end c.requires.source.0 c.ports_are_known.ensures (is_among c.args.plan.now.system c.args.end c.requires.end) c.requires.source.1 in
    (1, end_input c.args.plan.now.system c.args.end c.requires.source.0 source)

pub input_of-requires-7-clause-input : goal.input_of-requires-7-clause-input
input_of-requires-7-clause-input c =
    let source = source_at c.args.plan.now.system c.args.end c.requires.source.0 c.ports_are_known.ensures (is_among c.args.plan.now.system c.args.end c.requires.end) c.requires.source.1 in
    (c.requires.source.0.empty_bits, empty_input c.args.plan.now.system c.args.end c.requires.source.0 source)

pub unwrap-requires : goal.unwrap-requires
unwrap-requires c =
    let source = source_at c.args.plan.now.system c.args.end c.requires.source.0 c.ports_are_known.ensures (is_among c.args.plan.now.system c.args.end c.requires.end) c.requires.source.1 in
    valid_some c.args.plan.now.system c.args.builder.now c.args.end c.requires.source.0 c.input_of.result source (record { net_is = c.input_of.ensures.net; is = c.input_of.ensures.is })

pub unwrap-requires-2 : goal.unwrap-requires-2
unwrap-requires-2 c =
    let source = source_at c.args.plan.now.system c.args.end c.requires.source.0 c.ports_are_known.ensures (is_among c.args.plan.now.system c.args.end c.requires.end) c.requires.source.1 in
    data_some c.args.plan.now.system c.args.builder.now c.args.end c.requires.source.0 c.input_of-2.result source (bounded_at c.args.plan.now.system c.args.end c.requires.source.0 source c.proper_records_are_bounded.ensures.source)
    (record { net_is = c.input_of-2.ensures.net; is = c.input_of-2.ensures.is })

pub returns-clause-inputs : goal.returns-clause-inputs
returns-clause-inputs c source known =
    are_inputs c.args.plan.now.system c.args.builder.now c.args.end source c.unwrap.result c.unwrap-2.result c.input_of.result c.input_of-2.result c.input_of-3.result c.input_of-4.result c.input_of-5.result c.input_of-6.result c.input_of-7.result
    (source_at c.args.plan.now.system c.args.end source c.ports_are_known.ensures (is_among c.args.plan.now.system c.args.end c.requires.end) known)
    (record { valid_is = record { net_is = c.input_of.ensures.net; is = c.input_of.ensures.is }; word_is = record { net_is = c.input_of-2.ensures.net; is = c.input_of-2.ensures.is }; channel_is = record { net_is = c.input_of-3.ensures.net; is = c.input_of-3.ensures.is }; error_is = record { net_is = c.input_of-4.ensures.net; is = c.input_of-4.ensures.is }; start_is = record { net_is = c.input_of-5.ensures.net; is = c.input_of-5.ensures.is }; end_is = record { net_is = c.input_of-6.ensures.net; is = c.input_of-6.ensures.is }; empty_is = record { net_is = c.input_of-7.ensures.net; is = c.input_of-7.ensures.is } }) c.unwrap.ensures c.unwrap-2.ensures

pub returns-clause-nets : goal.returns-clause-nets
returns-clause-nets c source known =
    are_nets c.args.plan.now.system c.args.builder.now c.args.end source c.unwrap.result c.unwrap-2.result c.input_of.result c.input_of-2.result c.input_of-3.result c.input_of-4.result c.input_of-5.result c.input_of-6.result c.input_of-7.result
    (source_at c.args.plan.now.system c.args.end source c.ports_are_known.ensures (is_among c.args.plan.now.system c.args.end c.requires.end) known)
    (record { valid_is = record { net_is = c.input_of.ensures.net; is = c.input_of.ensures.is }; word_is = record { net_is = c.input_of-2.ensures.net; is = c.input_of-2.ensures.is }; channel_is = record { net_is = c.input_of-3.ensures.net; is = c.input_of-3.ensures.is }; error_is = record { net_is = c.input_of-4.ensures.net; is = c.input_of-4.ensures.is }; start_is = record { net_is = c.input_of-5.ensures.net; is = c.input_of-5.ensures.is }; end_is = record { net_is = c.input_of-6.ensures.net; is = c.input_of-6.ensures.is }; empty_is = record { net_is = c.input_of-7.ensures.net; is = c.input_of-7.ensures.is } }) c.unwrap.ensures c.unwrap-2.ensures
