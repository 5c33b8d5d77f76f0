-- The first of several faults.
use Rattle.std.proofs.Common.{◌≡◌, ℕ, Bool, true, false, eqb, List, [], ◌∷◌, ◌++◌, Option, Some, None, inl, inr, refl, sym, ap, subst, ◌∙◌, arith, append_assoc, append-nil}
use Rattle.std.specs.Prelude.{◌||◌, ◌&&◌, nat_lt, if◌then◌else◌}
use Rattle.std.proofs.lemmas.Bool.Decides.{nat_tests}
use Rattle.patch_form.specs.declared.fault.Fault.{Fault}
use Rattle.patch_form.specs.declared.fault.FaultKind.{FaultKind}
use Rattle.patch_form.specs.Unmet.{AllMet, Each, SomeOne, is_before, rank}
use Rattle.patch_form.specs.Demands.{Demand, IsMet}
use Rattle.patch_form.specs.Finding.{First, earlier_of}

each_both : (P : Demand → Type 0) (xs ys : List Demand) → Each P xs → Each P ys → Each P (xs ++ ys)
each_both P [] ys first second = second
each_both P (x ∷ xs) ys first second = (first.0, each_both P xs ys first.1 second)

each_more : (P Q : Demand → Type 0) (xs : List Demand) → ((x : Demand) → P x → Q x) → Each P xs → Each Q xs
each_more P Q [] more all = tt
each_more P Q (x ∷ xs) more all = (more x all.0, each_more P Q xs more all.1)

some_front : (P : Demand → Type 0) (xs ys : List Demand) → SomeOne P xs → SomeOne P (xs ++ ys)
some_front P [] ys some = absurd some
some_front P (x ∷ xs) ys (inl here) = inl here
some_front P (x ∷ xs) ys (inr there) = inr (some_front P xs ys there)

some_behind : (P : Demand → Type 0) (xs ys : List Demand) → SomeOne P ys → SomeOne P (xs ++ ys)
some_behind P [] ys some = some
some_behind P (x ∷ xs) ys some = inr (some_behind P xs ys some)

-- a demand of that line and kind that isn't met
abbrev UnmetAt : ℕ → FaultKind → Demand → Type 0
UnmetAt line kind demand = (demand.line ≡ line) × (demand.kind ≡ kind) × (¬ (IsMet demand.wanted))

abbrev NotBefore : ℕ → FaultKind → Demand → Type 0
NotBefore line kind demand = ¬ (IsMet demand.wanted) → is_before demand.line demand.kind line kind ≡ false

before : ℕ → ℕ → ℕ → ℕ → Bool
before a b c d = nat_lt a c || (eqb a c && nat_lt b d)

not_before : (a b c d e f : ℕ) → before c d e f ≡ true → before a b e f ≡ false → before a b c d ≡ false
unfolding before
not_before a b c d e f first second = grind (arith, nat_tests, first, second)

not_before_same : (a b c d e f : ℕ) → before c d e f ≡ false → before a b c d ≡ false → before a b e f ≡ false
unfolding before
not_before_same a b c d e f first second = grind (arith, nat_tests, first, second)

met_or : (line : ℕ) (kind : FaultKind) (demands : List Demand) → AllMet demands → Each (NotBefore line kind) demands
met_or line kind demands met = each_more (λ demand. IsMet demand.wanted) (NotBefore line kind) demands (λ demand is isnt. absurd (isnt is)) met

joined_some : (xs ys : List Demand) (first second : Fault) → (earlier : Bool) → is_before second.line second.kind first.line first.kind ≡ earlier → First xs (Some first) → First ys (Some second) → First (xs ++ ys) (if earlier then Some second else Some first)
unfolding before
joined_some xs ys first second true is one other = record {
  unmet = some_behind (UnmetAt second.line second.kind) xs ys other.unmet;
  first = each_both (NotBefore second.line second.kind) xs ys
      (each_more (NotBefore first.line first.kind) (NotBefore second.line second.kind) xs (λ demand not_first isnt. not_before demand.line (rank demand.kind) second.line (rank second.kind) first.line (rank first.kind) is (not_first isnt)) one.first)
      other.first;
}
joined_some xs ys first second false is one other = record {
  unmet = some_front (UnmetAt first.line first.kind) xs ys one.unmet;
  first = each_both (NotBefore first.line first.kind) xs ys one.first
      (each_more (NotBefore second.line second.kind) (NotBefore first.line first.kind) ys (λ demand not_second isnt. not_before_same demand.line (rank demand.kind) second.line (rank second.kind) first.line (rank first.kind) is (not_second isnt)) other.first);
}

-- of demands one after the other the earlier fault comes first
pub joined : (xs ys : List Demand) (one other : Option Fault) → First xs one → First ys other → First (xs ++ ys) (earlier_of one other)
joined xs ys None None first second = each_both (λ demand. IsMet demand.wanted) xs ys first second
joined xs ys None (Some fault) first second = record {
  unmet = some_behind (UnmetAt fault.line fault.kind) xs ys second.unmet;
  first = each_both (NotBefore fault.line fault.kind) xs ys (met_or fault.line fault.kind xs first) second.first;
}
joined xs ys (Some fault) None first second = record {
  unmet = some_front (UnmetAt fault.line fault.kind) xs ys first.unmet;
  first = each_both (NotBefore fault.line fault.kind) xs ys first.first (met_or fault.line fault.kind ys second);
}
joined xs ys (Some fault) (Some other) first second = joined_some xs ys fault other (is_before other.line other.kind fault.line fault.kind) refl first second

-- a fault was found in what stands before the rest
pub record Past (all rest : List Demand) (found : Option Fault) : Type 0 where
  pub front : List Demand
  pub first : First front found
  pub whole : all ≡ front ++ rest

pub past-begun : (all : List Demand) → Past all all None
past-begun all = record { front = []; first = tt; whole = refl }

pub past-more : (all here mine rest : List Demand) (found more now : Option Fault) → here ≡ mine ++ rest → First mine more → now ≡ earlier_of found more → Past all here found → Past all rest now
past-more all here mine rest found more now is first made past = record {
  front = past.front ++ mine;
  first = subst (λ (f : Option Fault). First (past.front ++ mine) f) (sym made) (joined past.front mine found more past.first first);
  whole = past.whole ∙ ap (λ (ds : List Demand). past.front ++ ds) is ∙ sym (append_assoc past.front mine rest);
}

pub past-done : (all : List Demand) (found : Option Fault) (rest : List Demand) → rest ≡ [] → Past all rest found → First all found
past-done all found rest none past =
    let whole : all ≡ past.front = past.whole ∙ ap (λ (ds : List Demand). past.front ++ ds) none ∙ append-nil past.front in
    subst (λ (ds : List Demand). First ds found) (sym whole) past.first

pub found-both : (xs ys : List Demand) (one other now : Option Fault) → First xs one → First ys other → now ≡ earlier_of one other → First (xs ++ ys) now
found-both xs ys one other now first second is = subst (λ (f : Option Fault). First (xs ++ ys) f) (sym is) (joined xs ys one other first second)
