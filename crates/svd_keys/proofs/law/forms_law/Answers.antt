use Rattle.std.proofs.Common.{refl}
use Rattle.svd_values.specs.Readers.{read_place}
use Rattle.svd_values.proofs.Givens.{number_given-exactly, bits_given-exactly}
use Rattle.svd_values.proofs.Ranges.{place_exactly}
use Rattle.svd_keys.specs.Forms.{number_of, bits_of, range_of}
use Rattle.svd_keys.proofs.Exactly.{access-exactly, kind-exactly, action-exactly, usage-exactly, name-exactly}
use Rattle.svd_keys.proofs.IndexLists.{index-exactly}
use Rattle.svd_keys.proofs.law.forms_law.Goals as goal

pub returns : goal.returns
unfolding number_of bits_of range_of
returns c = record {
  numbers = number_given-exactly;
  bits = bits_given-exactly;
  accesses = access-exactly;
  kinds = kind-exactly;
  actions = action-exactly;
  usages = usage-exactly;
  ranges = λ text. place_exactly text (read_place text) refl;
  names = name-exactly;
  indexes = index-exactly;
}
