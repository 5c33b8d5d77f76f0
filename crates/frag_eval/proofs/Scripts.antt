-- A script in plain numbers, line by line.
use Rattle.std.proofs.Common.{ℕ, ◌≡◌, List, [], ◌∷◌, ◌++◌, length, flat_map, refl, sym, ap, subst, ◌∙◌, arith, append_assoc, Vec, Global}
use Rattle.std.proofs.lemmas.List.{append-nil}
use Rattle.frag_tree.specs.declared.event.Event.{Event}
use Rattle.frag_tree.specs.declared.script.Script.{Script}
use Rattle.frag_tree.specs.declared.script.ScriptLine.{ScriptLine}
use Rattle.frag_tree.specs.Trees.{CrateTree}
use Rattle.frag_sem.specs.Meaning.{Outcome, Standing, lines_meaning, meaning}
use Rattle.frag_sem.specs.TextMeaning.{text_at, text_meaning}
use Rattle.frag_eval.specs.declared.deed.Deed.{Deed}
use Rattle.frag_eval.specs.declared.deed.Deed.TheVariants as deed
use Rattle.frag_eval.specs.declared.lower.Lowering.{Lowering}
use Rattle.frag_eval.specs.declared.names.Reading.{Reading}
use Rattle.frag_eval.specs.Courses.{deeds_dues, target_due}
use Rattle.frag_eval.specs.Deeds.{deeds_mean}
use Rattle.frag_eval.specs.Lowered.{AreAll, Grows, IsFew, standing_of}
use Rattle.frag_eval.specs.Lowering.{Knows, finds_bound, outcome_at}
use Rattle.frag_eval.specs.Prefixes.{dues, dues_of, reads_in}

-- How far the deeds of the lines before the rest come, for these answers: to these events, with these words read.
pub record Comes (krate : CrateTree) (answers : List ℕ) (all rest : List ScriptLine) (lowering : Lowering) : Type 0 where
  pub events : List Event
  pub words : List ℕ
  pub standing : Standing
  pub meant : (others : List Deed) → deeds_mean (lowering.deeds.items ++ others) [] answers ≡ events ++ deeds_mean others words standing.answers
  pub left : lines_meaning (text_at krate) all (standing_of answers []) ≡ events ++ lines_meaning (text_at krate) rest standing
  pub knows : Knows words (finds_bound lowering.bound) standing.names
  pub count : length words ≡ lowering.reads

-- All lines are in plain numbers but the rest.
pub record LoweredUpTo (krate : CrateTree) (all rest : List ScriptLine) (lowering : Lowering) : Type 0 where
  pub comes : (answers : List ℕ) → Comes krate answers all rest lowering
  pub due : deeds_dues lowering.deeds.items ++ flat_map (dues_of krate) rest ≡ flat_map (dues_of krate) all
  pub few : IsFew lowering

dues-append : (xs ys : List Deed) → deeds_dues (xs ++ ys) ≡ deeds_dues xs ++ deeds_dues ys
unfolding deeds_dues
dues-append [] ys = refl
dues-append (deed.Read at ∷ xs) ys = ap (λ l. target_due at ∷ l) (dues-append xs ys)
dues-append (deed.Write at from puts ∷ xs) ys = ap (λ l. target_due at ∷ l) (dues-append xs ys)
dues-append (deed.Say value ∷ xs) ys = dues-append xs ys

pub lowered_none : (krate : CrateTree) (all : List ScriptLine) (deeds : Vec Deed Global) (bound : List (List ℕ × Reading)) → deeds.items ≡ [] → bound ≡ [] → LoweredUpTo krate all all (record { deeds = deeds; bound = bound; reads = 0 })
unfolding deeds_dues
lowered_none krate all deeds bound no_deeds none = record {
  comes = λ answers. record {
    events = [];
    words = [];
    standing = standing_of answers [];
    meant = λ others. ap (λ l. deeds_mean (l ++ others) [] answers) no_deeds;
    left = refl;
    knows = subst (λ (b : List (List ℕ × Reading)). Knows [] (finds_bound b) []) (sym none) (record { known = λ name. refl; small = λ read. omega arith; within = λ name. tt });
    count = refl;
  };
  due = ap (λ l. deeds_dues l ++ flat_map (dues_of krate) all) no_deeds;
  few = omega arith;
}

pub lowered_more : (krate : CrateTree) (all rest others : List ScriptLine) (line : ScriptLine) (old now : Lowering) → rest ≡ line ∷ others → LoweredUpTo krate all rest old
    → Grows old now (λ answers names. outcome_at krate answers names line) (dues_of krate line) → LoweredUpTo krate all others now
unfolding lines_meaning
lowered_more krate all rest others line old now is so_far grows = record {
  comes = λ answers.
      let c = so_far.comes answers in
      let out : Outcome = outcome_at krate c.standing.answers c.standing.names line in
      let d = grows.does c.words c.standing.answers c.standing.names c.count c.knows in
      record {
        events = c.events ++ out.events;
        words = c.words ++ reads_in out.events;
        standing = out.after;
        meant = λ behind.
            ap (λ l. deeds_mean (l ++ behind) [] answers) grows.deeds
            ∙ (ap (λ l. deeds_mean l [] answers) (append_assoc old.deeds.items grows.more behind)
            ∙ (c.meant (grows.more ++ behind)
            ∙ (ap (λ l. c.events ++ l) (d.meant behind)
            ∙ sym (append_assoc c.events out.events (deeds_mean behind (c.words ++ reads_in out.events) out.after.answers)))));
        left =
            c.left ∙ (ap (λ l. c.events ++ lines_meaning (text_at krate) l c.standing) is
            ∙ sym (append_assoc c.events out.events (lines_meaning (text_at krate) others out.after)));
        knows = d.knows;
        count = d.words_read;
      };
  due =
      ap (λ l. deeds_dues l ++ flat_map (dues_of krate) others) grows.deeds
      ∙ (ap (λ l. l ++ flat_map (dues_of krate) others) (dues-append old.deeds.items grows.more ∙ ap (λ l. deeds_dues old.deeds.items ++ l) grows.due)
      ∙ (append_assoc (deeds_dues old.deeds.items) (dues_of krate line) (flat_map (dues_of krate) others)
      ∙ (ap (λ l. deeds_dues old.deeds.items ++ flat_map (dues_of krate) l) (sym is) ∙ so_far.due)));
  few = grows.few;
}

pub lowered_all : (krate : CrateTree) (script : Script) (rest : List ScriptLine) (lowering : Lowering) → rest ≡ [] → LoweredUpTo krate script.lines rest lowering → AreAll krate script lowering.deeds.items
unfolding text_meaning meaning lines_meaning deeds_mean dues
lowered_all krate script rest lowering none so_far = record {
  meant = λ answers.
      let c = so_far.comes answers in
      c.left ∙ (ap (λ l. c.events ++ lines_meaning (text_at krate) l c.standing) none
      ∙ (sym (c.meant []) ∙ ap (λ l. deeds_mean l [] answers) (append-nil lowering.deeds.items)));
  due = sym so_far.due ∙ (ap (λ l. deeds_dues lowering.deeds.items ++ flat_map (dues_of krate) l) none ∙ append-nil (deeds_dues lowering.deeds.items));
}
