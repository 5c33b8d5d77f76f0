-- What the stages of reading say together is the answer.
use Rattle.std.proofs.Common.{◌≡◌, ℕ, List, [], ◌∷◌, Option, Some, None, inl, inr, refl, sym, ap, subst, ◌∙◌}
use Rattle.yaml_block.specs.declared.fault.BlockFault.{BlockFault}
use Rattle.yaml_block.specs.declared.fault.BlockFault.TheVariants.{Syntax, TooDeep, DoubleKey, Memory}
use Rattle.yaml_block.specs.declared.pass.Verdict.TheVariants.{Right, Wrong}
use Rattle.yaml_block.specs.Answers.{Fits, IsBlock, IsBroken, IsDouble, IsRefused, IsTooDeep, first_deep, first_double}
use Rattle.yaml_block.specs.Building.{built_behind, tree_in}
use Rattle.yaml_block.specs.Judging.{Judged}
use Rattle.yaml_block.specs.Lines.{found_in}
use Rattle.yaml_block.specs.Meanings.{entries_in, file_tree}
use Rattle.yaml_block.specs.Nesting.{first, deep_entries}
use Rattle.yaml_block.specs.Passing.{start, verdict}
use Rattle.yaml_block.specs.Trees.{Tree, entries_of}
use Rattle.yaml_block.proofs.Gathered.{built-spelled}
use Rattle.yaml_block.proofs.Spelled.{passed}
use Rattle.yaml_block.proofs.UpTo.{break_of, is_broken}

-- the file's mapping is the first that nests
file_deep : (entries : List (ℕ × List ℕ × Tree)) → first_deep (file_tree entries) ≡ first (deep_entries 1 (entries_of entries))
file_deep [] = refl
file_deep (entry ∷ entries) = refl

module _ (bytes : List ℕ) where
  whole : (deep : Option ℕ) → verdict start (found_in bytes).lines ≡ Right deep → (found_in bytes).fault ≡ None → (tree : Tree) × Fits (found_in bytes) tree × (first_deep tree ≡ deep) × (tree ≡ tree_in (built_behind (found_in bytes).lines []))
  whole deep fits formed =
      let entries = passed (found_in bytes).lines deep fits in
      (file_tree (entries_in entries.forest), record { formed = formed; blocks = record { forest = entries.forest; spelled = entries.spelled; meant = refl } }, file_deep (entries_in entries.forest) ∙ sym entries.deepest, sym (built-spelled entries.forest (found_in bytes).lines entries.spelled))

  pub wrong : (line : ℕ) → verdict start (found_in bytes).lines ≡ Wrong line → IsBroken bytes line
  wrong line is = is_broken bytes line (ap (λ said. break_of said (found_in bytes).fault) is)

  pub unformed : (line : ℕ) (deep : Option ℕ) → verdict start (found_in bytes).lines ≡ Right deep → (found_in bytes).fault ≡ Some line → IsBroken bytes line
  unformed line deep is fault = is_broken bytes line (ap (λ said. break_of said (found_in bytes).fault) is ∙ fault)

  pub too_deep_at : (line : ℕ) → verdict start (found_in bytes).lines ≡ Right (Some line) → (found_in bytes).fault ≡ None → IsTooDeep bytes line
  too_deep_at line is formed = let all = whole (Some line) is formed in record { tree = all.0; fits = all.1; deep = all.2 }

  pub refused_by : (fault : BlockFault) → Judged (found_in bytes) fault → IsRefused bytes fault
  refused_by (Syntax line) judged = elim judged [ inl is ↦ wrong line is | inr is ↦ unformed line is.0 is.1 is.2 ]
  refused_by (TooDeep line) judged = too_deep_at line judged.1 judged.0
  refused_by (DoubleKey line) judged = absurd judged
  refused_by Memory judged = tt

  module _ (tree : Tree) (shallow : verdict start (found_in bytes).lines ≡ Right None) (formed : (found_in bytes).fault ≡ None) (built : tree ≡ tree_in (built_behind (found_in bytes).lines [])) where
    pub block : first_double tree ≡ None → IsBlock bytes tree
    block unique =
        let all = whole None shallow formed in
        let same : all.0 ≡ tree = all.3 ∙ sym built in
        subst (λ t. first_double t ≡ None → IsBlock bytes t) same (λ one. record { fits = all.1; shallow = all.2; unique = one }) unique

    pub double : (line : ℕ) → first_double tree ≡ Some line → IsDouble bytes line
    double line twice =
        let all = whole None shallow formed in
        let same : all.0 ≡ tree = all.3 ∙ sym built in
        record { tree = all.0; fits = all.1; shallow = all.2; double = ap first_double same ∙ twice }
