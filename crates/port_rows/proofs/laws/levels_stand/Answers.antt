use Rattle.port_rows.proofs.Standing.{each_stands, front_stands, back_stands, widths_stay, others_stay, set_in_two, fits_front, fits_behind}
use Rattle.port_rows.proofs.laws.levels_stand.Goals as goal

pub returns-clause-stands : goal.returns-clause-stands
returns-clause-stands c = each_stands

pub returns-clause-widths : goal.returns-clause-widths
returns-clause-widths c = widths_stay

pub returns-clause-others : goal.returns-clause-others
returns-clause-others c = others_stay

pub returns-clause-front : goal.returns-clause-front
returns-clause-front c = front_stands

pub returns-clause-back : goal.returns-clause-back
returns-clause-back c = back_stands

pub returns-clause-in_two : goal.returns-clause-in_two
returns-clause-in_two c = set_in_two

pub returns-clause-first_fits : goal.returns-clause-first_fits
returns-clause-first_fits c = fits_front

pub returns-clause-second_fits : goal.returns-clause-second_fits
returns-clause-second_fits c = fits_behind
