use Rattle.std.proofs.Common.{ℕ, ◌≡◌, List, [], ◌∷◌, ◌++◌, length, refl, sym, ap, ◌∙◌, subst, arith, rules}
use Rattle.std.proofs.lemmas.Result.{err_from_is_err_and}
use Rattle.std.specs.Vec.Iter.{into_iter_items, into_iter_len}
use Rattle.pac_fault.specs.Classes.{class_of}
use Rattle.pac_fault.specs.declared.fault.PacFault.{PacFault}
use Rattle.pac_inputs.specs.Reads.{Reads, ReadsNot, HasRead}
use Rattle.pac_inputs.specs.Shelves.{Shelf, shelf}
use Rattle.pac_inputs.specs.declared.gathering.Wanted.{Wanted}
use Rattle.pac_inputs.proofs.GatheredSoFar.{GatheredSoFar, begun, went_on, broke_off, lacks_memory, is_done}
use Rattle.pac_inputs.proofs.gathering.gather.Goals as goal

-- the files that are left begin with this one
here : (wanted left later : List Wanted) (file : Wanted) (inputs : List (List ℕ)) (old now : Shelf) → left ≡ file ∷ later → GatheredSoFar wanted left inputs old now → GatheredSoFar wanted (file ∷ later) inputs old now
here wanted left later file inputs old now is h = subst (λ (files : List Wanted). GatheredSoFar wanted files inputs old now) is h

-- none are left
nothing_left : (left : List Wanted) → length left ≡ 0 → left ≡ []
nothing_left [] h = refl
nothing_left (file ∷ left) h = absurd (omega arith)

pub loop-file-init : goal.loop-file-init
loop-file-init g c =
    let same = c.into_iter-file-iterator.ensures.into_iter_gives in
    let now = shelf (g.F.Files.told c.args.files.now) (g.F.Files.asked c.args.files.now) (g.F.Files.faults c.args.files.now) in (
      subst (λ (inputs : List (List ℕ)). GatheredSoFar c.args.wanted.items (into_iter_items c.into_iter-file-iterator.result) inputs now now) (sym c.new-inputs.ensures)
          (subst (λ (files : List Wanted). GatheredSoFar c.args.wanted.items files [] now now) (sym same.0) (begun c.args.wanted.items now)),
      search rules,
    )

pub returns-in_err-bytes : goal.returns-in_err-bytes
returns-in_err-bytes g c =
    let p = err_from_is_err_and c.from_residual.result c.from_residual.ensures.1 in
    let old = shelf (g.F.Files.told c.args.files.now) (g.F.Files.asked c.args.files.now) (g.F.Files.faults c.args.files.now) in
    let now = shelf (g.F.Files.told c.loop-file.files) (g.F.Files.asked c.loop-file.files) (g.F.Files.faults c.loop-file.files) in
    let new = shelf (g.F.Files.told c.read.new.files) (g.F.Files.asked c.read.new.files) (g.F.Files.faults c.read.new.files) in
    rw (p.1, p.2) (broke_off c.args.wanted.items (into_iter_items c.next.new.self) c.loop-file.inputs c.in-Some.file old now new c.in_err-bytes.field-0.0
    (here c.args.wanted.items (into_iter_items c.loop-file.file-iterator) (into_iter_items c.next.new.self) c.in-Some.file c.loop-file.inputs old now c.in-Some.ensures.steps.0 c.loop-file.invariant.0)
    c.in_err-bytes.ensures)

pub loop-file-preserved : goal.loop-file-preserved
loop-file-preserved g c =
    let old = shelf (g.F.Files.told c.args.files.now) (g.F.Files.asked c.args.files.now) (g.F.Files.faults c.args.files.now) in
    let now = shelf (g.F.Files.told c.loop-file.files) (g.F.Files.asked c.loop-file.files) (g.F.Files.faults c.loop-file.files) in
    let new = shelf (g.F.Files.told c.read.new.files) (g.F.Files.asked c.read.new.files) (g.F.Files.faults c.read.new.files) in
    let more = went_on c.args.wanted.items (into_iter_items c.next.new.self) c.loop-file.inputs c.in-Some.file c.in_ok-bytes.bytes old now new
    (here c.args.wanted.items (into_iter_items c.loop-file.file-iterator) (into_iter_items c.next.new.self) c.in-Some.file c.loop-file.inputs old now c.in-Some.ensures.steps.0 c.loop-file.invariant.0)
    c.in_ok-bytes.ensures in (
      subst (λ (inputs : List (List ℕ)). GatheredSoFar c.args.wanted.items (into_iter_items c.next.new.self) inputs old new) (sym c.in_ok-push.ensures.ok) more,
      let was = c.loop-file.invariant.1 in
          let gone = c.in-Some.ensures.steps.1 in
          let short = ap length c.in-Some.ensures.steps.0 in
          omega arith,
    )

pub returns-in_err-push : goal.returns-in_err-push
returns-in_err-push g c =
    let p = err_from_is_err_and c.from_residual-in_err-push.result c.from_residual-in_err-push.ensures.1 in
    let old = shelf (g.F.Files.told c.args.files.now) (g.F.Files.asked c.args.files.now) (g.F.Files.faults c.args.files.now) in
    let now = shelf (g.F.Files.told c.loop-file.files) (g.F.Files.asked c.loop-file.files) (g.F.Files.faults c.loop-file.files) in
    let new = shelf (g.F.Files.told c.read.new.files) (g.F.Files.asked c.read.new.files) (g.F.Files.faults c.read.new.files) in
    rw p.1 (lacks_memory c.args.wanted.items (into_iter_items c.next.new.self) (c.loop-file.inputs ++ c.in_ok-bytes.bytes ∷ []) old new p.0
    (went_on c.args.wanted.items (into_iter_items c.next.new.self) c.loop-file.inputs c.in-Some.file c.in_ok-bytes.bytes old now new
    (here c.args.wanted.items (into_iter_items c.loop-file.file-iterator) (into_iter_items c.next.new.self) c.in-Some.file c.loop-file.inputs old now c.in-Some.ensures.steps.0 c.loop-file.invariant.0)
    c.in_ok-bytes.ensures) p.2)
