use Rattle.frag_tree.proofs.Productions.{slot_exact, element_exact, type_exact, field_exact, access_exact}
use Rattle.frag_tree.proofs.RegisterProductions.{reader_exact, writer_exact}
use Rattle.frag_tree.proofs.ValuesProductions.{values_exact}
use Rattle.frag_tree.proofs.RegisterModules.{register_exact}
use Rattle.frag_tree.proofs.ModuleProductions.{block_exact, module_exact, modules_exact}
use Rattle.frag_tree.proofs.laws.readings_law.Goals as goal

pub returns-clause-slot : goal.returns-clause-slot
returns-clause-slot c = slot_exact

pub returns-clause-element : goal.returns-clause-element
returns-clause-element c = element_exact

pub returns-clause-field_type : goal.returns-clause-field_type
returns-clause-field_type c = type_exact

pub returns-clause-field : goal.returns-clause-field
returns-clause-field c = field_exact

pub returns-clause-access : goal.returns-clause-access
returns-clause-access c = access_exact

pub returns-clause-reader : goal.returns-clause-reader
returns-clause-reader c = reader_exact

pub returns-clause-writer : goal.returns-clause-writer
returns-clause-writer c = writer_exact

pub returns-clause-values : goal.returns-clause-values
returns-clause-values c = values_exact

pub returns-clause-register : goal.returns-clause-register
returns-clause-register c = register_exact

pub returns-clause-block : goal.returns-clause-block
returns-clause-block c = block_exact

pub returns-clause-module_tree : goal.returns-clause-module_tree
returns-clause-module_tree c = module_exact

pub returns-clause-modules : goal.returns-clause-modules
returns-clause-modules c = modules_exact
