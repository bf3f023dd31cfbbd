-- What the components of a bench set, end by end.
use Rattle.std.proofs.Common.{◌≡◌, ℕ, suc, ◌*◌, List, [], ◌∷◌, ◌++◌, length, map, flat_map, slice_get, Option, Some, is_some, unwrap_or, inl, inr, refl, sym, ap, ap₂, ◌∙◌, arith}
use Rattle.std.proofs.lemmas.List.{append-nil}
use Rattle.std.proofs.lemmas.List.Concat.{flat_map-append}
use Rattle.histories.specs.History.{one_if}
use Rattle.iface_roles.specs.declared.records.HostPort.{HostPort}
use Rattle.iface_roles.specs.declared.records.AgentPort.{AgentPort}
use Rattle.iface_roles.specs.declared.records.StreamPort.{StreamPort}
use Rattle.iface_roles.specs.declared.records.Finished.TheVariants.{Host, Agent, Source, Sink}
use Rattle.system_tables.specs.declared.tables.EndId.{EndId}
use Rattle.system_tables.specs.Tables.{SystemTable}
use Rattle.address_map.specs.Footprints.{known_at}
use Rattle.memory_runs.specs.Views.{Levels}
use Rattle.stream_runs.specs.View.{Beat}
use Rattle.port_tables.specs.declared.roles.PortRole.{PortRole}
use Rattle.port_tables.specs.declared.roles.PortRole.TheVariants as role
use Rattle.port_tables.specs.Ports.{bits_if, port_of}
use Rattle.port_rows.specs.Levels.{Level, level_if}
use Rattle.stand_ins.specs.Sources.{no_beat}
use Rattle.port_rows.specs.Inputs.{place_at}
use Rattle.port_rows.specs.Hosts.{host_places, host_levels}
use Rattle.port_rows.specs.declared.agent_ends.places.AgentLevels.{AgentLevels}
use Rattle.port_rows.specs.Agents.{agent_places, agent_levels}
use Rattle.port_rows.specs.Sources.{source_places, source_levels}
use Rattle.port_rows.specs.Blocks.{RoleLevel, EndLevels, AreEndInputs, AllAreEndInputs, end_levels}

-- levels are given at an end, and at some ends one after another
pub record IsGivenAt (system : SystemTable) (end : EndId) (levels : List Level) : Type 0 where
  pub given : EndLevels
  pub end_is : given.end ≡ end
  pub inputs : AreEndInputs system given
  pub levels_are : levels ≡ end_levels system given

pub record AreGivenAt (system : SystemTable) (ends : List EndId) (levels : List Level) : Type 0 where
  pub given : List EndLevels
  pub ends_are : map (λ (one : EndLevels). one.end) given ≡ ends
  pub inputs : AllAreEndInputs system given
  pub levels_are : levels ≡ flat_map (end_levels system) given

-- ---- one end

abbrev gives : PortRole → ℕ → RoleLevel
gives r bits = record { role = r; bits = bits }

abbrev host_given : EndId → Levels → EndLevels
host_given end levels = record {
  end = end;
  levels = gives role.Address levels.address ∷ gives role.Read levels.read ∷ gives role.Write levels.write ∷ gives role.WriteData levels.word ∷ gives role.ByteEnable levels.enables
      ∷ gives role.BurstCount levels.count ∷ [];
}

pub host_is_given : (system : SystemTable) (end : EndId) (port : HostPort) (levels : Levels) → known_at system end ≡ Host port → IsGivenAt system end (host_levels (host_places system end) levels)
host_is_given system end port levels known = record {
  given = host_given end levels;
  end_is = refl;
  inputs = record {
    there = Host port;
    known = known;
    inputs = (
      record { port = port_of role.Address port.address_bits; may = inl refl; role_is = refl; input = refl },
      (
        record { port = port_of role.Read (bits_if port.reads 1); may = inr (inl refl); role_is = refl; input = refl },
        (
          record { port = port_of role.Write (bits_if port.writes 1); may = inr (inr (inl refl)); role_is = refl; input = refl },
          (
            record { port = port_of role.WriteData (bits_if port.writes (8 * port.word_bytes)); may = inr (inr (inr (inl refl))); role_is = refl; input = refl },
            (
              record { port = port_of role.ByteEnable (bits_if port.enables port.word_bytes); may = inr (inr (inr (inr (inl refl)))); role_is = refl; input = refl },
              (
                record { port = port_of role.BurstCount port.burst_bits; may = inr (inr (inr (inr (inr (inl refl))))); role_is = refl; input = refl },
                tt,
              ),
            ),
          ),
        ),
      ),
    );
    once = (
      ((λ e. cc), ((λ e. cc), ((λ e. cc), ((λ e. cc), ((λ e. cc), tt))))),
      (
        ((λ e. cc), ((λ e. cc), ((λ e. cc), ((λ e. cc), tt)))),
        (
          ((λ e. cc), ((λ e. cc), ((λ e. cc), tt))),
          (
            ((λ e. cc), ((λ e. cc), tt)),
            (
              ((λ e. cc), tt),
              (
                tt,
                tt,
              ),
            ),
          ),
        ),
      ),
    );
  };
  levels_are = refl;
}

abbrev agent_given : EndId → AgentLevels → EndLevels
agent_given end levels = record {
  end = end;
  levels = gives role.WaitRequest (one_if levels.wait) ∷ gives role.ReadDataValid (one_if levels.valid) ∷ gives role.ReadData levels.word ∷ gives role.Response levels.code ∷ [];
}

pub agent_is_given : (system : SystemTable) (end : EndId) (port : AgentPort) (levels : AgentLevels) → known_at system end ≡ Agent port → IsGivenAt system end (agent_levels (agent_places system end) levels)
agent_is_given system end port levels known = record {
  given = agent_given end levels;
  end_is = refl;
  inputs = record {
    there = Agent port;
    known = known;
    inputs = (
      record { port = port_of role.WaitRequest (bits_if port.waitrequest 1); may = inr (inr (inr (inr (inr (inr (inl refl)))))); role_is = refl; input = refl },
      (
        record { port = port_of role.ReadDataValid (bits_if port.readdatavalid 1); may = inr (inr (inr (inr (inr (inr (inr (inr (inl refl)))))))); role_is = refl; input = refl },
        (
          record { port = port_of role.ReadData (bits_if port.reads (8 * port.word_bytes)); may = inr (inr (inr (inr (inr (inr (inr (inl refl))))))); role_is = refl; input = refl },
          (
            record { port = port_of role.Response (bits_if port.response 2); may = inr (inr (inr (inr (inr (inr (inr (inr (inr (inl refl))))))))); role_is = refl; input = refl },
            tt,
          ),
        ),
      ),
    );
    once = (
      ((λ e. cc), ((λ e. cc), ((λ e. cc), tt))),
      (
        ((λ e. cc), ((λ e. cc), tt)),
        (
          ((λ e. cc), tt),
          (
            tt,
            tt,
          ),
        ),
      ),
    );
  };
  levels_are = refl;
}

abbrev source_given : EndId → Option Beat → EndLevels
source_given end beat =
    let shown = unwrap_or beat no_beat in
    record {
      end = end;
      levels = gives role.Valid (one_if (is_some beat)) ∷ gives role.Data shown.word ∷ gives role.Channel shown.channel ∷ gives role.Error shown.error ∷ gives role.StartOfPacket shown.first
          ∷ gives role.EndOfPacket shown.last ∷ gives role.Empty shown.empty ∷ [];
    }

pub source_is_given : (system : SystemTable) (end : EndId) (port : StreamPort) (beat : Option Beat) → known_at system end ≡ Source port → IsGivenAt system end (source_levels (source_places system end) beat)
source_is_given system end port beat known = record {
  given = source_given end beat;
  end_is = refl;
  inputs = record {
    there = Source port;
    known = known;
    inputs = (
      record { port = port_of role.Valid 1; may = inr (inl refl); role_is = refl; input = refl },
      (
        record { port = port_of role.Data (port.symbols * port.symbol_bits); may = inr (inr (inl refl)); role_is = refl; input = refl },
        (
          record { port = port_of role.Channel port.channel_bits; may = inr (inr (inr (inl refl))); role_is = refl; input = refl },
          (
            record { port = port_of role.Error port.error_bits; may = inr (inr (inr (inr (inl refl)))); role_is = refl; input = refl },
            (
              record { port = port_of role.StartOfPacket (bits_if port.packets 1); may = inr (inr (inr (inr (inr (inl refl))))); role_is = refl; input = refl },
              (
                record { port = port_of role.EndOfPacket (bits_if port.packets 1); may = inr (inr (inr (inr (inr (inr (inl refl)))))); role_is = refl; input = refl },
                (
                  record { port = port_of role.Empty port.empty_bits; may = inr (inr (inr (inr (inr (inr (inr (inl refl))))))); role_is = refl; input = refl },
                  tt,
                ),
              ),
            ),
          ),
        ),
      ),
    );
    once = (
      ((λ e. cc), ((λ e. cc), ((λ e. cc), ((λ e. cc), ((λ e. cc), ((λ e. cc), tt)))))),
      (
        ((λ e. cc), ((λ e. cc), ((λ e. cc), ((λ e. cc), ((λ e. cc), tt))))),
        (
          ((λ e. cc), ((λ e. cc), ((λ e. cc), ((λ e. cc), tt)))),
          (
            ((λ e. cc), ((λ e. cc), ((λ e. cc), tt))),
            (
              ((λ e. cc), ((λ e. cc), tt)),
              (
                ((λ e. cc), tt),
                (
                  tt,
                  tt,
                ),
              ),
            ),
          ),
        ),
      ),
    );
  };
  levels_are = refl;
}

pub sink_is_given : (system : SystemTable) (end : EndId) (port : StreamPort) (bits : ℕ) → known_at system end ≡ Sink port → IsGivenAt system end (level_if (place_at system end role.Ready) bits)
sink_is_given system end port bits known = record {
  given = record { end = end; levels = gives role.Ready bits ∷ [] };
  end_is = refl;
  inputs = record {
    there = Sink port;
    known = known;
    inputs = (record { port = port_of role.Ready (bits_if port.ready 1); may = inl refl; role_is = refl; input = refl }, tt);
    once = (tt, tt);
  };
  levels_are = sym (append-nil (level_if (place_at system end role.Ready) bits));
}

-- ---- several ends

module _ (system : SystemTable) where
  pub none_given : AreGivenAt system [] []
  none_given = record { given = []; ends_are = refl; inputs = tt; levels_are = refl }

  pub one_given : (end : EndId) (levels : List Level) → IsGivenAt system end levels → AreGivenAt system (end ∷ []) levels
  one_given end levels is = record {
    given = is.given ∷ [];
    ends_are = ap (λ (e : EndId). e ∷ []) is.end_is;
    inputs = (is.inputs, tt);
    levels_are = is.levels_are ∙ sym (append-nil (end_levels system is.given));
  }

  all_inputs : (one other : List EndLevels) → AllAreEndInputs system one → AllAreEndInputs system other → AllAreEndInputs system (one ++ other)
  all_inputs [] other h g = g
  all_inputs (first ∷ later) other h g = (h.0, all_inputs later other h.1 g)

  ends_joined : (one other : List EndLevels) → map (λ (g : EndLevels). g.end) (one ++ other) ≡ map (λ (g : EndLevels). g.end) one ++ map (λ (g : EndLevels). g.end) other
  ends_joined [] other = refl
  ends_joined (first ∷ later) other = ap (λ (es : List EndId). first.end ∷ es) (ends_joined later other)

  pub both_given : (ends others : List EndId) (one two : List Level) → AreGivenAt system ends one → AreGivenAt system others two → AreGivenAt system (ends ++ others) (one ++ two)
  both_given ends others one two a b = record {
    given = a.given ++ b.given;
    ends_are = ends_joined a.given b.given ∙ ap₂ (λ (x y : List EndId). x ++ y) a.ends_are b.ends_are;
    inputs = all_inputs a.given b.given a.inputs b.inputs;
    levels_are = ap₂ (λ (x y : List Level). x ++ y) a.levels_are b.levels_are ∙ sym (flat_map-append (end_levels system) a.given b.given);
  }

  -- items that are given at the ends of the places where they stand
  pub many_given : {E C : Type 0} (ends_at : E → List EndId) (sets : C → List Level) (places : List E) (items : List C) → length items ≡ length places
      → ((k : ℕ) (place : E) (item : C) → slice_get places k ≡ Some place → slice_get items k ≡ Some item → AreGivenAt system (ends_at place) (sets item))
      → AreGivenAt system (flat_map ends_at places) (flat_map sets items)
  many_given {E} {C} ends_at sets [] [] count each = none_given
  many_given {E} {C} ends_at sets [] (item ∷ items) count each = absurd (omega arith)
  many_given {E} {C} ends_at sets (place ∷ places) [] count each = absurd (omega arith)
  many_given {E} {C} ends_at sets (place ∷ places) (item ∷ items) count each =
      both_given (ends_at place) (flat_map ends_at places) (sets item) (flat_map sets items) (each 0 place item refl refl)
      (many_given ends_at sets places items (omega arith) (λ k p x a b. each (suc k) p x a b))

-- each end is one of its own
pub each_alone : (ends : List EndId) → flat_map (λ (e : EndId). e ∷ []) ends ≡ ends
each_alone [] = refl
each_alone (end ∷ ends) = ap (λ (es : List EndId). end ∷ es) (each_alone ends)
