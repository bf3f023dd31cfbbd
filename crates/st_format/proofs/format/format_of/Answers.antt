use Rattle.st_format.proofs.FormatLaw.{format_leads, format_orders, format_resizes, format_takes, order_takes, resize_widths, format_few, order_few, resize_few, format_none, order_none, resize_none}
use Rattle.st_format.proofs.format.format_of.Goals as goal

pub returns-clause-format : goal.returns-clause-format
returns-clause-format c = record { turn = c.turn_of.ensures; clear = c.clearing_of.ensures; resize = c.resize_of.ensures }

pub returns-clause-leads : goal.returns-clause-leads
returns-clause-leads c passes side at all = format_leads c.args.source.now c.args.sink.now _ (returns-clause-format c) c.requires.some c.requires.sink_some passes side at all

pub returns-clause-orders : goal.returns-clause-orders
returns-clause-orders c passes side at all = format_orders c.args.source.now c.args.sink.now _ (returns-clause-format c) c.requires.some c.requires.sink_some passes side at all

pub returns-clause-resizes : goal.returns-clause-resizes
returns-clause-resizes c passes side at all = format_resizes c.args.source.now c.args.sink.now _ (returns-clause-format c) c.requires.some c.requires.sink_some passes side at all

pub returns-clause-widths : goal.returns-clause-widths
returns-clause-widths c = format_takes c.args.source.now c.args.sink.now _ (returns-clause-format c) c.requires.some c.requires.sink_some

pub returns-clause-order_widths : goal.returns-clause-order_widths
returns-clause-order_widths c = order_takes c.args.source.now c.args.sink.now _ (returns-clause-format c) c.requires.some c.requires.sink_some

pub returns-clause-resize_widths : goal.returns-clause-resize_widths
returns-clause-resize_widths c = resize_widths c.args.source.now c.args.sink.now _ (returns-clause-format c) c.requires.some c.requires.sink_some

pub returns-clause-nets : goal.returns-clause-nets
returns-clause-nets c = format_few c.args.source.now c.args.sink.now _ (returns-clause-format c) c.requires.some c.requires.sink_some

pub returns-clause-few_order : goal.returns-clause-few_order
returns-clause-few_order c = order_few c.args.source.now c.args.sink.now _ (returns-clause-format c) c.requires.some c.requires.sink_some

pub returns-clause-few_resize : goal.returns-clause-few_resize
returns-clause-few_resize c = resize_few c.args.source.now c.args.sink.now _ (returns-clause-format c) c.requires.some c.requires.sink_some

pub returns-clause-nothing : goal.returns-clause-nothing
returns-clause-nothing c = format_none c.args.source.now c.args.sink.now _ (returns-clause-format c) c.requires.some c.requires.sink_some

pub returns-clause-no_order : goal.returns-clause-no_order
returns-clause-no_order c = order_none c.args.source.now c.args.sink.now _ (returns-clause-format c) c.requires.some c.requires.sink_some

pub returns-clause-no_resize : goal.returns-clause-no_resize
returns-clause-no_resize c = resize_none c.args.source.now c.args.sink.now _ (returns-clause-format c) c.requires.some c.requires.sink_some
