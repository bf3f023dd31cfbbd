use Rattle.std.proofs.Common.{◌∷◌, ap, ◌∙◌}
use Rattle.net_parts.specs.Laws.{if_ok}
use Rattle.net_parts.specs.Groups.{values_of}
use Rattle.mm_select.specs.Queue.{TakesOldest}
use Rattle.mm_select.proofs.queue.take_oldest.Goals as goal

pub returns-clause-value : goal.returns-clause-value
returns-clause-value c =
    if_ok c.take_place.result _ (λ word. TakesOldest c.take_place.new.builder c.args.queue.now c.args.wide word c.args.width)
    (λ word value. (record {
      place = c.only_net-first.result;
      oldest = λ cycle v some coming. (c.in_ok-oldest.ensures.value cycle (c.take_place.ensures.adds.grows.extends.valuations cycle v) some coming ∙ ap (λ nets. 1 ∷ values_of cycle nets) c.only_net-first.ensures);
      word_is = λ cycle v. value cycle v;
    }))
    c.take_place.ensures.value
