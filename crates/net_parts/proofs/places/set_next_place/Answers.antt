use Rattle.std.proofs.Common.{◌+◌, arith, inl, inr, ◌∙◌}
use Rattle.net_parts.specs.Groups.{nets_last, in_row}
use Rattle.net_parts.specs.Laws.{extends_twice}
use Rattle.net_parts.proofs.places.set_next_place.Goals as goal

pub set_all_next-requires : goal.set_all_next-requires
set_all_next-requires g c =
    let more = c.set_next.ensures.extends in
    let widths = c.requires.widths in (
      (let few = c.requires.few in omega arith),
      (
        nets_last _ _ _ more c.requires.place.item,
        (
          record {
            start = c.args.place.now.full.number + 1;
            numbers = c.requires.numbers.1;
            wait = λ n o. c.set_next.ensures.still_wait n (λ e. (let at = in_row _ _ c.requires.numbers.1 n o in let low = at.least in absurd (omega (arith, e)))) (c.requires.wait n (inr o));
          },
          (nets_last _ _ _ more c.requires.next.item, (cc)),
        ),
      ),
    )

pub returns-clause-grows : goal.returns-clause-grows
returns-clause-grows g c = record {
  extends = extends_twice _ _ _ c.set_next.ensures.extends c.set_all_next.ensures.grows.extends;
  most = (let same = c.set_next.ensures.same_count in let more = c.set_all_next.ensures.grows.most in omega arith);
  drivers = c.set_all_next.ensures.grows.drivers ∙ c.set_next.ensures.drivers;
  memories = c.set_all_next.ensures.grows.memories ∙ c.set_next.ensures.memories;
}

pub returns-clause-no_more_wait : goal.returns-clause-no_more_wait
returns-clause-no_more_wait g c n w =
    let item = c.set_all_next.ensures.no_more_wait n w in
    let full = c.set_next.ensures.no_more_wait n item.0 in
    (full.0, λ o. elim o [ inl e ↦ full.1 e | inr p ↦ item.1 p ])

pub returns-clause-value : goal.returns-clause-value
returns-clause-value g c run cycles r n lt =
    let full = c.set_next.ensures.value run cycles (c.set_all_next.ensures.grows.extends.runs run cycles r) n lt in
    let item = c.set_all_next.ensures.value run cycles r n lt in
    cc

pub returns-clause-still_wait : goal.returns-clause-still_wait
returns-clause-still_wait g c n apart w = c.set_all_next.ensures.still_wait n (λ o. apart (inr o)) (c.set_next.ensures.still_wait n (λ e. apart (inl e)) w)
