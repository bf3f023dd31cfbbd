use Rattle.std.proofs.Common.{length}
use Rattle.std.proofs.lemmas.Bool.{ltb-false}
use Rattle.address_map.specs.Maps.{agents_of}
use Rattle.mm_fabric.proofs.Linking.{linked_plan}
use Rattle.mm_fabric.proofs.laws.plans_are_linked.Goals as goal

pub returns : goal.returns
returns c = λ plan is.
    linked_plan plan (record {
      numbered = c.memory_connections_are_numbered.ensures.links plan.system is.system;
      each = c.memory_connections_are_numbered.ensures.each plan.system is.system;
      one = c.ends_have_one_number.ensures.one plan.system;
      joined = c.ends_are_joined.ensures plan.system;
      hosts = c.plans_have_their_ends.ensures.hosts plan is;
      agents = c.plans_have_their_ends.ensures.agents plan is;
      few_agents = ltb-false 32 (length (agents_of plan.system)) (is.limits 2);
      ends = c.plans_have_their_ends.ensures.links plan is;
      spans = c.spans_fit_ranges.ensures plan is;
      words = c.words_fit_pairs.ensures.word plan is;
      lanes = c.words_fit_pairs.ensures.lanes plan is;
      has = c.plans_are_memory_plans.ensures.links plan is;
      keeps = c.plans_are_memory_plans.ensures.kept plan is;
      once = c.plans_are_memory_plans.ensures.apart plan is;
      apart = c.plans_are_apart.ensures plan is;
      routes = c.routes_are_the_map.ensures plan is;
    })
