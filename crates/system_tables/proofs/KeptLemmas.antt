-- The ends of a system, where its tables are kept.
use Rattle.std.proofs.Common.{◌≡◌, ℕ, ◌<◌, ◌≤◌, ◌⊎◌, List, [], length, Some, map, slice_get, get_or, sym, ap, ◌∙◌, subst, inl, inr}
use Rattle.std.specs.Option.{option_map}
use Rattle.std.proofs.lemmas.Option.{slice_get-map, slice_get-get_or}
use Rattle.std.proofs.lemmas.Bool.{cases_lt}
use Rattle.std.proofs.Math.ListN.{get_or-eq_default}
use Rattle.system_tables.specs.declared.system.Instance.{Instance}
use Rattle.iface_roles.specs.declared.records.Finished.{Finished}
use Rattle.system_tables.specs.declared.system.System.TheInside.{Inside}
use Rattle.system_tables.specs.declared.tables.EndId.{EndId}
use Rattle.system_tables.specs.declared.tables.InterfaceTable.{InterfaceTable}
use Rattle.system_tables.specs.Tables.{InstanceTable, SystemTable, IsEnd}
use Rattle.system_tables.specs.Kept.{instance_of, table_of}

-- the item of a mapped list is made of the list's item
pub made_of : {A B : Type 0} (f : A → B) (xs : List A) (k : ℕ) (x : A) (y : B) → slice_get xs k ≡ Some x → slice_get (map f xs) k ≡ Some y → f x ≡ y
made_of f xs k x y at h =
    let e : Some (f x) ≡ Some y = sym (ap (option_map f) at) ∙ sym (slice_get-map f xs k) ∙ h in cc

-- an instance that has an interface names a component that is kept, and the component's interfaces are the instance's
pub record IsKept (components : List (List InterfaceTable)) (kept : Instance) (table : InstanceTable) : Type 0 where
  pub within : kept.component < length components
  pub interfaces : slice_get components kept.component ≡ Some table.interfaces

pub kept_of : (components : List (List InterfaceTable)) (instances : List Instance) (n i : ℕ) (kept : Instance) (table : InstanceTable) (interface : InterfaceTable)
    → slice_get instances n ≡ Some kept → slice_get (map (instance_of components) instances) n ≡ Some table
    → slice_get table.interfaces i ≡ Some interface → IsKept components kept table
kept_of components instances n i kept table interface at there has = by (cases_lt kept.component (length components))
  where
    made : table.interfaces ≡ get_or components kept.component []
    made = ap (λ (t : InstanceTable). t.interfaces) (sym (made_of (instance_of components) instances n kept table at there))

    none : (xs : List InterfaceTable) → xs ≡ [] → slice_get xs i ≡ Some interface → ⊥
    none xs e h = let s : slice_get {X = InterfaceTable} [] i ≡ Some interface = subst (λ l. slice_get l i ≡ Some interface) e h in cc

    by : (kept.component < length components) ⊎ (length components ≤ kept.component) → IsKept components kept table
    by (inl h) = record { within = h; interfaces = slice_get-get_or components kept.component [] h ∙ ap Some (sym made) }
    by (inr h) = absurd (none table.interfaces (made ∙ get_or-eq_default components [] h) has)

-- the same of an end of the system that the kept tables stand for
pub kept_end : (kept : Inside) (system : SystemTable) (end : EndId) (known : Finished) (instances : List Instance) (instance : Instance) → table_of kept ≡ system
    → (e : IsEnd system end known) → instances ≡ kept.instances.items → slice_get instances end.instance ≡ Some instance → IsKept kept.components instance e.instance
kept_end kept system end known instances instance is e same there =
    kept_of kept.components kept.instances.items end.instance end.interface instance e.instance e.interface
    (ap (λ (l : List Instance). slice_get l end.instance) (sym same) ∙ there)
    (ap (λ (t : SystemTable). slice_get t.instances end.instance) is ∙ e.instance_is) e.interface_is
