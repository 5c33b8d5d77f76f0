use Rattle.frag_words.proofs.Readings.{one_tree}
use Rattle.frag_tree.specs.Productions.{slot_reading, element_reading, type_reading, field_reading, access_reading}
use Rattle.frag_tree.specs.RegisterProductions.{reader_reading, writer_reading, values_reading, register_reading}
use Rattle.frag_tree.specs.ModuleProductions.{block_reading, module_reading, modules_reading}
use Rattle.frag_tree.proofs.Productions.{slot_exact, element_exact, type_exact, field_exact, access_exact}
use Rattle.frag_tree.proofs.RegisterProductions.{reader_exact, writer_exact}
use Rattle.frag_tree.proofs.ValuesProductions.{values_exact}
use Rattle.frag_tree.proofs.RegisterModules.{register_exact}
use Rattle.frag_tree.proofs.ModuleProductions.{block_exact, module_exact, modules_exact}
use Rattle.frag_tree.proofs.laws.words_law.Goals as goal

pub returns-clause-slot : goal.returns-clause-slot
unfolding slot_reading
returns-clause-slot c = one_tree slot_reading slot_exact

pub returns-clause-element : goal.returns-clause-element
unfolding element_reading
returns-clause-element c = one_tree element_reading element_exact

pub returns-clause-field_type : goal.returns-clause-field_type
unfolding type_reading
returns-clause-field_type c = one_tree type_reading type_exact

pub returns-clause-field : goal.returns-clause-field
unfolding field_reading
returns-clause-field c = one_tree field_reading field_exact

pub returns-clause-access : goal.returns-clause-access
unfolding access_reading
returns-clause-access c = one_tree access_reading access_exact

pub returns-clause-reader : goal.returns-clause-reader
unfolding reader_reading
returns-clause-reader c version = one_tree (reader_reading version) (reader_exact version)

pub returns-clause-writer : goal.returns-clause-writer
unfolding writer_reading
returns-clause-writer c version = one_tree (writer_reading version) (writer_exact version)

pub returns-clause-values : goal.returns-clause-values
unfolding values_reading
returns-clause-values c = one_tree values_reading values_exact

pub returns-clause-register : goal.returns-clause-register
unfolding register_reading
returns-clause-register c version = one_tree (register_reading version) (register_exact version)

pub returns-clause-block : goal.returns-clause-block
unfolding block_reading
returns-clause-block c version = one_tree (block_reading version) (block_exact version)

pub returns-clause-module_tree : goal.returns-clause-module_tree
unfolding module_reading
returns-clause-module_tree c version = one_tree (module_reading version) (module_exact version)

pub returns-clause-modules : goal.returns-clause-modules
unfolding modules_reading
returns-clause-modules c version = one_tree (modules_reading version) (modules_exact version)
