use Rattle.std.specs.Prelude.{slice_index}
use Rattle.std.proofs.Common.{◌≡◌, arith, refl, ap}
use Rattle.runs_tests.proofs.memory.packs.unpacked_reads.Goals as goal

pub returns-clause-each_byte : goal.returns-clause-each_byte
returns-clause-each_byte c = λ packs. (let joins = (packs 9 (omega arith)).joins in cc)

pub returns-clause-twice : goal.returns-clause-twice
returns-clause-twice c = λ packs. (let joins = (packs 3 (omega arith)).joins in cc)

pub returns-clause-all_lanes : goal.returns-clause-all_lanes
returns-clause-all_lanes c = λ carries. (let joins = (carries.in_order 3 (omega arith)).joins in cc)

pub returns-clause-uncut : goal.returns-clause-uncut
returns-clause-uncut c = λ lie. (let within = (lie 0 (omega arith) refl).within in omega (arith, within))

pub returns-clause-unmoved : goal.returns-clause-unmoved
returns-clause-unmoved c = λ back. (let joins = (back.bytes 4 (omega arith)).joins in cc)

pub returns-clause-repeated : goal.returns-clause-repeated
returns-clause-repeated c = λ back. (let second : 0x13 ≡ 0x14 = ap (λ l. slice_index l 1) (back.bytes 4 (omega arith)).joins in omega (arith, second))
