use Rattle.std.proofs.Common.{inl, inr, [], ◌∷◌, refl}
use Rattle.marked_bytes.specs.Items.{Spelled, Mark}
use Rattle.marked_bytes.proofs.laws.faulty_bytes.Goals as goal

pub returns-clause-mark_for_channel : goal.returns-clause-mark_for_channel
returns-clause-mark_for_channel c = inl (refl, record { marks = []; bytes = refl; proper = refl; proper_marks = refl; mark = refl })

pub returns-clause-outside : goal.returns-clause-outside
returns-clause-outside c = inr (refl, record { marks = []; bytes = refl; proper = refl; proper_marks = refl; «data» = refl; stands = refl })

pub returns-clause-outside_escaped : goal.returns-clause-outside_escaped
returns-clause-outside_escaped c = inr (refl, record { marks = Mark.IsLast ∷ []; bytes = refl; proper = refl; proper_marks = refl; «data» = refl; stands = refl })

pub returns-clause-first_inside : goal.returns-clause-first_inside
returns-clause-first_inside c = inr (refl, record { marks = Mark.IsFirst ∷ []; bytes = refl; proper = refl; proper_marks = refl; «data» = refl; stands = refl })

pub returns-clause-channel_inside : goal.returns-clause-channel_inside
returns-clause-channel_inside c = inr (refl, record { marks = Mark.OnChannel (Spelled.Itself 3) ∷ []; bytes = refl; proper = refl; proper_marks = refl; «data» = refl; stands = refl })
