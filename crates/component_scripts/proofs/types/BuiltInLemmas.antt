-- The built-in source of a clock is a component.
use Rattle.std.proofs.Common.{◌≡◌, ℕ, zero, suc, false, List, get_or, Option, Some, None, refl, sym, ◌∙◌}
use Rattle.std.specs.Prelude.{IsTrue, codes, replicate}
use Rattle.std.specs.List.{IsDistinct}
use Rattle.std.proofs.lemmas.List.Elements.{All-from_recursion}
use Rattle.iface_roles.specs.declared.kinds.Kind.{Kind}
use Rattle.iface_roles.specs.declared.kinds.Kind.TheVariants.{Clock, Reset}
use Rattle.iface_roles.specs.declared.kinds.Side.{Side}
use Rattle.iface_roles.specs.declared.kinds.Side.TheVariants.{Start, End}
use Rattle.iface_roles.specs.declared.records.Finished.TheVariants.{Other}
use Rattle.iface_roles.specs.Held.{empty, property_place}
use Rattle.iface_roles.specs.Proper.{IsProper}
use Rattle.iface_roles.specs.Rules.{breaks}
use Rattle.component_scripts.specs.Library.{built_in, clock_source_table}
use Rattle.system_tables.specs.Names.{is_name}
use Rattle.component_scripts.specs.Tables.{Fits, IsSound, IsComponent}

nothing_set : (count k : ℕ) → get_or (replicate {A = Option ℕ} count None) k None ≡ None
nothing_set zero k = refl
nothing_set (suc count) zero = refl
nothing_set (suc count) (suc k) = nothing_set count k

keeps_rules : (rule : ℕ) → breaks (empty Clock End) rule ≡ false
keeps_rules zero = refl
keeps_rules (suc rule) = refl

other_is_proper : IsProper Other
other_is_proper =
    record {
      held = empty Clock End;
      in_range = λ id number e. (let none : None ≡ Some number = sym (nothing_set 26 (property_place id)) ∙ e in cc);
      keeps = keeps_rules;
      is = refl;
    }

built_in_is_sound : (name : List ℕ) (kind : Kind) (side : Side) → IsTrue (is_name name) → Fits kind side Other → IsSound (built_in name kind side)
built_in_is_sound name kind side named fits = record { name = named; proper = other_is_proper; fits = fits }

pub clock_source_is_component : IsComponent clock_source_table
unfolding is_name IsDistinct
clock_source_is_component =
    record {
      name = refl;
      interfaces = All-from_recursion IsSound clock_source_table.interfaces (
        built_in_is_sound (codes "clk_in") Clock End refl tt,
        (
          built_in_is_sound (codes "clk_in_reset") Reset End refl tt,
          (
            built_in_is_sound (codes "clk") Clock Start refl tt,
            (built_in_is_sound (codes "clk_reset") Reset Start refl tt, tt),
          ),
        ),
      );
      distinct = ((refl, (refl, (refl, tt))), ((refl, (refl, tt)), ((refl, tt), (tt, tt))));
    }
