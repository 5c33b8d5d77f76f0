-- A plain scalar at the front of a text: the reader takes what is plain, and goes on to where no plain scalar goes on.
use Rattle.std.proofs.Common.{◌≡◌, ◌≢◌, ℕ, Bool, true, false, not, ◌&&◌, ◌||◌, eqb, List, [], ◌∷◌, ◌++◌, length, Some, refl, sym, ap, subst, ◌∙◌, ◌⊎◌, inl, inr, append-nil, append_assoc}
use Rattle.std.specs.Prelude.{codes, slice_index, None}
use Rattle.std.specs.List.{list_all}
use Rattle.std.specs.Str.{is_utf8}
use Rattle.std.proofs.lemmas.Bool.{cases_Bool, and_left, and_parts, and_right, eqb-true, true≢false}
use Rattle.text_scan.specs.Fronts.{front_of, rest_of, StopsAt}
use Rattle.text_scan.specs.Steps.{◌>>=◌}
use Rattle.text_scan.proofs.Fronts.{front-rest, front_passes, rest_stops, rest-append}
use Rattle.text_scan.proofs.Lists.{given}
use Rattle.text_scan.proofs.Steps.{bind_some, guard_some, some_is}
use Rattle.yaml_block.specs.declared.scalar.Place.{Place}
use Rattle.yaml_block.specs.declared.scalar.Place.TheVariants.{Line, Flow}
use Rattle.yaml_block.specs.Scalars.{is_flow_mark, is_in_flow, is_indicator, is_plain, plain_at, plain_front, plain_rest, stops, text_of}
use Rattle.yaml_block.specs.Spaces.{is_parted, is_space, starts, trimmed}
use Rattle.patch_text.specs.Parts.{BeginsWith, EndsWith, Holds, AreSpaces}
use Rattle.patch_text.specs.PlainScalars.{BeginsWithMark, BeginsWithPlain, HoldsNoMark, IsAmong, IsPlain, StopsPlain, flow_marks, indicators}
use Rattle.patch_text.proofs.Texts.{among_any, among_mark, any_among, ends_behind, holds_behind, mark_among, stops_where, trimmed_parts, trimmed-append}

-- ---- where a plain scalar ends

no_stop : (a b c d : Bool) → a ≡ false → b ≡ false → c ≡ false → d ≡ false → (a || b || c || d) ≡ false
no_stop a b c d p q r s = rw (p, q, r, s) refl

one_stop : (a b c d : Bool) → (a || b || c || d) ≡ true → (a ≡ true) ⊎ ((b ≡ true) ⊎ ((c ≡ true) ⊎ (d ≡ true)))
one_stop true b c d e = inl refl
one_stop false true c d e = inr (inl refl)
one_stop false false true d e = inr (inr (inl refl))
one_stop false false false true e = inr (inr (inr refl))
one_stop false false false false e = absurd (true≢false (sym e))

last_stop : (a b c d : Bool) → d ≡ true → (a || b || c || d) ≡ true
last_stop true b c d e = refl
last_stop false true c d e = refl
last_stop false false true d e = refl
last_stop false false false d e = e

pub nothing_stops : (place : Place) → stops place [] ≡ true
unfolding stops
nothing_stops place = refl

pub colon_stops : (place : Place) (text : List ℕ) → is_parted text ≡ true → stops place (58 ∷ text) ≡ true
unfolding stops
colon_stops place text parted = rw parted refl

pub parted_space : (text : List ℕ) → is_parted (32 ∷ text) ≡ true
unfolding is_parted
parted_space text = refl

parted_nothing : is_parted [] ≡ true
unfolding is_parted
parted_nothing = refl

pub comment_stops : (place : Place) (text : List ℕ) → stops place (32 ∷ 35 ∷ text) ≡ true
unfolding stops starts
comment_stops place text = refl

tab_stops : (place : Place) (text : List ℕ) → stops place (9 ∷ text) ≡ true
unfolding stops
tab_stops place text = refl

mark_stops : (byte : ℕ) (text : List ℕ) → IsAmong flow_marks byte → stops Flow (byte ∷ text) ≡ true
unfolding stops
mark_stops byte text among = last_stop (eqb byte 9) (eqb byte 58 && is_parted text) (eqb byte 32 && starts 35 text) (is_flow_mark byte) (among_mark byte among)

colon_there : (place : Place) (byte : ℕ) (text : List ℕ) → byte ≡ 58 → is_parted text ≡ true → StopsPlain place (byte ∷ text)
unfolding is_parted
colon_there place byte [] is parted = inr (inr (inl (ap (λ (b : ℕ). b ∷ []) is)))
colon_there place byte (next ∷ text) is parted = inr (inl (text, ap (λ (b : ℕ). b ∷ next ∷ text) is ∙ ap (λ (b : ℕ). 58 ∷ b ∷ text) (eqb-true next 32 parted)))

comment_there : (place : Place) (byte : ℕ) (text : List ℕ) → byte ≡ 32 → starts 35 text ≡ true → StopsPlain place (byte ∷ text)
unfolding starts
comment_there place byte [] is hash = absurd (true≢false (sym hash))
comment_there place byte (next ∷ text) is hash = inr (inr (inr (inl (text, ap (λ (b : ℕ). b ∷ next ∷ text) is ∙ ap (λ (b : ℕ). 32 ∷ b ∷ text) (eqb-true next 35 hash)))))

mark_there : (place : Place) (byte : ℕ) (text : List ℕ) → (is_in_flow place && is_flow_mark byte) ≡ true → StopsPlain place (byte ∷ text)
mark_there Line byte text e = absurd (true≢false (sym e))
mark_there Flow byte text e = inr (inr (inr (inr (inl (byte, mark_among byte e, (text, refl))))))

pub stops_take : (place : Place) (text : List ℕ) → stops place text ≡ true → StopsPlain place text
unfolding stops
stops_take place [] e = inl refl
stops_take place (byte ∷ text) e =
    elim (one_stop (eqb byte 9) (eqb byte 58 && is_parted text) (eqb byte 32 && starts 35 text) (is_in_flow place && is_flow_mark byte) e) [
      | inl tab ↦ inr (inr (inr (inr (inr (text, ap (λ (b : ℕ). b ∷ text) (eqb-true byte 9 tab))))))
      | inr other ↦ elim other [
        | inl colon ↦ let parts = and_parts (eqb byte 58) (is_parted text) colon in colon_there place byte text (eqb-true byte 58 parts.0) parts.1
        | inr another ↦ elim another [
          | inl comment ↦ let parts = and_parts (eqb byte 32) (starts 35 text) comment in comment_there place byte text (eqb-true byte 32 parts.0) parts.1
          | inr mark ↦ mark_there place byte text mark
        ]
      ]
    ]

pub stops_again : (place : Place) (text : List ℕ) → StopsPlain place text → stops place text ≡ true
stops_again place text is =
    elim is [
      | inl none ↦ ap (stops place) none ∙ nothing_stops place
      | inr some ↦ elim some [
        | inl entry ↦ ap (stops place) entry.1 ∙ colon_stops place (32 ∷ entry.0) (parted_space entry.0)
        | inr other ↦ elim other [
          | inl colon ↦ ap (stops place) colon ∙ colon_stops place [] parted_nothing
          | inr another ↦ elim another [
            | inl comment ↦ ap (stops place) comment.1 ∙ comment_stops place comment.0
            | inr last ↦ elim last [
              | inl mark ↦ at_mark place text mark
              | inr tab ↦ ap (stops place) tab.1 ∙ tab_stops place tab.0
            ]
          ]
        ]
      ]
    ]
  where
    at_mark : (place : Place) (text : List ℕ) → BeginsWithMark place text → stops place text ≡ true
    at_mark Line text mark = absurd mark
    at_mark Flow text mark = ap (stops Flow) mark.2.1 ∙ mark_stops mark.0 mark.2.0 mark.1

-- ---- a text cut where a plain scalar in it ends

-- before the rest the scalar stops nowhere
Free : Place → List ℕ → List ℕ → Type 0
Free place [] rest = Unit {0}
Free place (byte ∷ front) rest = (stops place (byte ∷ (front ++ rest)) ≡ false) × Free place front rest

free_at : (place : Place) (before after rest : List ℕ) (byte : ℕ) → Free place (before ++ (byte ∷ after)) rest → stops place (byte ∷ (after ++ rest)) ≡ false
unfolding Free
free_at place [] after rest byte free = free.0
free_at place (x ∷ before) after rest byte free = free_at place before after rest byte free.1

plain-whole : (place : Place) (text : List ℕ) → plain_front place text ++ plain_rest place text ≡ text
unfolding plain_front plain_rest
plain-whole place [] = refl
plain-whole place (byte ∷ text) =
    elim (cases_Bool (stops place (byte ∷ text))) [
      | inl stopped ↦ rw stopped refl
      | inr other ↦ rw other (ap (λ (t : List ℕ). byte ∷ t) (plain-whole place text))
    ]

plain_free : (place : Place) (text : List ℕ) → Free place (plain_front place text) (plain_rest place text)
unfolding plain_front plain_rest Free
plain_free place [] = tt
plain_free place (byte ∷ text) =
    elim (cases_Bool (stops place (byte ∷ text))) [
      | inl stopped ↦ rw stopped tt
      | inr other ↦ rw other (subst (λ (t : List ℕ). stops place (byte ∷ t) ≡ false) (sym (plain-whole place text)) other, plain_free place text)
    ]

plain_stops : (place : Place) (text : List ℕ) → stops place (plain_rest place text) ≡ true
unfolding plain_rest
plain_stops place [] = nothing_stops place
plain_stops place (byte ∷ text) =
    elim (cases_Bool (stops place (byte ∷ text))) [
      | inl stopped ↦ rw stopped stopped
      | inr other ↦ rw other (plain_stops place text)
    ]

plain-append : (place : Place) (front rest : List ℕ) → Free place front rest → stops place rest ≡ true → (plain_front place (front ++ rest) ≡ front) × (plain_rest place (front ++ rest) ≡ rest)
unfolding plain_front plain_rest Free
plain-append place [] [] free stop = (refl, refl)
plain-append place [] (byte ∷ rest) free stop = (rw stop refl, rw stop refl)
plain-append place (byte ∷ front) rest free stop =
    let more = plain-append place front rest free.1 stop in
    (rw (free.0) (ap (λ (t : List ℕ). byte ∷ t) more.0), rw (free.0) more.1)

-- ---- what is plain stops nowhere

-- what is said of a plain scalar, but for its front
record Inner (place : Place) (text : List ℕ) : Type 0 where
  no_entry : ¬ Holds (codes ": ") text
  no_comment : ¬ Holds (codes " #") text
  no_key : ¬ EndsWith (codes ":") text
  no_tab : ¬ Holds (codes "\t") text
  no_space : ¬ EndsWith (codes " ") text
  no_mark : HoldsNoMark place text

mark_behind : (place : Place) (byte : ℕ) (text : List ℕ) → HoldsNoMark place (byte ∷ text) → HoldsNoMark place text
mark_behind Line byte text none = tt
mark_behind Flow byte text none = λ b among h. none b among (holds_behind (b ∷ []) byte text h)

inner_behind : (place : Place) (byte : ℕ) (text : List ℕ) → Inner place (byte ∷ text) → Inner place text
inner_behind place byte text i = record {
  no_entry = λ h. i.no_entry (holds_behind (codes ": ") byte text h);
  no_comment = λ h. i.no_comment (holds_behind (codes " #") byte text h);
  no_key = λ h. i.no_key (ends_behind (codes ":") byte text h);
  no_tab = λ h. i.no_tab (holds_behind (codes "\t") byte text h);
  no_space = λ h. i.no_space (ends_behind (codes " ") byte text h);
  no_mark = mark_behind place byte text i.no_mark;
}

never : (place : Place) → (is_in_flow place && false) ≡ false
never place = and_right (is_in_flow place) false refl

hash_goes_on : (place : Place) (text : List ℕ) → stops place (35 ∷ text) ≡ false
unfolding stops
hash_goes_on place text = no_stop false false false (is_in_flow place && false) refl refl refl (never place)

no_hash : (place : Place) (gap rest : List ℕ) → AreSpaces gap → stops place rest ≡ true → starts 35 (gap ++ rest) ≡ false
unfolding starts
no_hash place [] [] spaces stop = refl
no_hash place [] (byte ∷ rest) spaces stop =
    elim (cases_Bool (eqb byte 35)) [
      | inl same ↦ absurd (true≢false (sym stop ∙ ap (λ (b : ℕ). stops place (b ∷ rest)) (eqb-true byte 35 same) ∙ hash_goes_on place rest))
      | inr other ↦ other
    ]
no_hash place (x ∷ gap) rest spaces stop = ap (λ (b : ℕ). eqb b 35) (eqb-true x 32 (and_parts (is_space x) (list_all is_space gap) spaces).0)

space_goes_on : (place : Place) (gap rest : List ℕ) → AreSpaces gap → stops place rest ≡ true → stops place (32 ∷ (gap ++ rest)) ≡ false
unfolding stops
space_goes_on place gap rest spaces stop = no_stop false false (starts 35 (gap ++ rest)) (is_in_flow place && false) refl refl (no_hash place gap rest spaces stop) (never place)

spaces_free : (place : Place) (gap rest : List ℕ) → AreSpaces gap → stops place rest ≡ true → Free place gap rest
unfolding Free
spaces_free place [] rest spaces stop = tt
spaces_free place (x ∷ gap) rest spaces stop =
    let parts = and_parts (is_space x) (list_all is_space gap) spaces in
    (subst (λ (b : ℕ). stops place (b ∷ (gap ++ rest)) ≡ false) (sym (eqb-true x 32 parts.0)) (space_goes_on place gap rest parts.1 stop), spaces_free place gap rest parts.1 stop)

colon_goes_on : (place : Place) (byte : ℕ) (text behind : List ℕ) → Inner place (byte ∷ text) → byte ≡ 58 → is_parted (text ++ behind) ≡ false
unfolding is_parted
colon_goes_on place byte [] behind inner is = absurd (inner.no_key ([], ap (λ (b : ℕ). b ∷ []) is))
colon_goes_on place byte (next ∷ text) behind inner is =
    elim (cases_Bool (eqb next 32)) [
      | inl same ↦ absurd (inner.no_entry ([], text, ap (λ (b : ℕ). b ∷ next ∷ text) is ∙ ap (λ (b : ℕ). 58 ∷ b ∷ text) (eqb-true next 32 same)))
      | inr other ↦ other
    ]

blank_goes_on : (place : Place) (byte : ℕ) (text behind : List ℕ) → Inner place (byte ∷ text) → byte ≡ 32 → starts 35 (text ++ behind) ≡ false
unfolding starts
blank_goes_on place byte [] behind inner is = absurd (inner.no_space ([], ap (λ (b : ℕ). b ∷ []) is))
blank_goes_on place byte (next ∷ text) behind inner is =
    elim (cases_Bool (eqb next 35)) [
      | inl same ↦ absurd (inner.no_comment ([], text, ap (λ (b : ℕ). b ∷ next ∷ text) is ∙ ap (λ (b : ℕ). 32 ∷ b ∷ text) (eqb-true next 35 same)))
      | inr other ↦ other
    ]

mark_goes_on : (place : Place) (byte : ℕ) (text : List ℕ) → HoldsNoMark place (byte ∷ text) → (is_in_flow place && is_flow_mark byte) ≡ false
mark_goes_on Line byte text none = refl
mark_goes_on Flow byte text none =
    elim (cases_Bool (is_flow_mark byte)) [
      | inl same ↦ absurd (none byte (mark_among byte same) ([], text, refl))
      | inr other ↦ other
    ]

inner_goes_on : (place : Place) (byte : ℕ) (text behind : List ℕ) → Inner place (byte ∷ text) → stops place (byte ∷ (text ++ behind)) ≡ false
unfolding stops
inner_goes_on place byte text behind inner =
    no_stop (eqb byte 9) (eqb byte 58 && is_parted (text ++ behind)) (eqb byte 32 && starts 35 (text ++ behind)) (is_in_flow place && is_flow_mark byte)
    (elim (cases_Bool (eqb byte 9)) [
      | inl same ↦ absurd (inner.no_tab ([], text, ap (λ (b : ℕ). b ∷ text) (eqb-true byte 9 same)))
      | inr other ↦ other
    ])
    (elim (cases_Bool (eqb byte 58)) [
      | inl same ↦ and_right (eqb byte 58) (is_parted (text ++ behind)) (colon_goes_on place byte text behind inner (eqb-true byte 58 same))
      | inr other ↦ and_left (eqb byte 58) (is_parted (text ++ behind)) other
    ])
    (elim (cases_Bool (eqb byte 32)) [
      | inl same ↦ and_right (eqb byte 32) (starts 35 (text ++ behind)) (blank_goes_on place byte text behind inner (eqb-true byte 32 same))
      | inr other ↦ and_left (eqb byte 32) (starts 35 (text ++ behind)) other
    ])
    (mark_goes_on place byte text inner.no_mark)

inner_free : (place : Place) (text gap rest : List ℕ) → Inner place text → AreSpaces gap → stops place rest ≡ true → Free place (text ++ gap) rest
unfolding Free
inner_free place [] gap rest inner spaces stop = spaces_free place gap rest spaces stop
inner_free place (byte ∷ text) gap rest inner spaces stop = (
  subst (λ (t : List ℕ). stops place (byte ∷ t) ≡ false) (sym (append_assoc text gap rest)) (inner_goes_on place byte text (gap ++ rest) inner),
  inner_free place text gap rest (inner_behind place byte text inner) spaces stop,
)

-- ---- both ends of what is plain

not_true : (b : Bool) → not b ≡ true → b ≡ false
not_true true e = absurd (true≢false (sym e))
not_true false e = refl

both_not : (a b : Bool) → a ≡ false → b ≡ false → (not a && not b) ≡ true
both_not a b one other = rw (one, other) refl

at_end : (first : ℕ) (more : List ℕ) (byte : ℕ) → slice_index (first ∷ (more ++ (byte ∷ []))) (length (more ++ (byte ∷ []))) ≡ byte
at_end first [] byte = refl
at_end first (x ∷ more) byte = at_end x more byte

ends_at : (first : ℕ) (others : List ℕ) → slice_index (first ∷ others) (length others) ≡ 58 → EndsWith (codes ":") (first ∷ others)
ends_at first [] is = ([], ap (λ (b : ℕ). b ∷ []) is)
ends_at first (x ∷ others) is = ends_behind (codes ":") first (x ∷ others) (ends_at x others is)

nothing_plain : is_plain [] ≡ false
unfolding is_plain
nothing_plain = refl

plain_first : (first : ℕ) (others : List ℕ) → is_plain (first ∷ others) ≡ true → is_indicator first ≡ false
unfolding is_plain
plain_first first others e = not_true (is_indicator first) (and_parts (not (is_indicator first)) (not (eqb (slice_index (first ∷ others) (length others)) 58)) e).0

colon_plain : (before : List ℕ) → is_plain (before ++ (58 ∷ [])) ≡ false
unfolding is_plain
colon_plain [] = refl
colon_plain (first ∷ before) =
    and_right (not (is_indicator first)) (not (eqb (slice_index (first ∷ (before ++ (58 ∷ []))) (length (before ++ (58 ∷ [])))) 58)) (ap (λ (b : ℕ). not (eqb b 58)) (at_end first before 58))

plain_is : (place : Place) (text : List ℕ) → IsPlain place text → is_plain text ≡ true
unfolding is_plain
plain_is place [] p = absurd (p.some refl)
plain_is place (first ∷ others) p =
    both_not (is_indicator first) (eqb (slice_index (first ∷ others) (length others)) 58)
    (elim (cases_Bool (is_indicator first)) [
      | inl same ↦ absurd (p.front first (among_any indicators first same) (others, refl))
      | inr other ↦ other
    ])
    (elim (cases_Bool (eqb (slice_index (first ∷ others) (length others)) 58)) [
      | inl same ↦ absurd (p.no_key (ends_at first others (eqb-true (slice_index (first ∷ others) (length others)) 58 same)))
      | inr other ↦ other
    ])

-- ---- what is read is plain

-- the text is the plain scalar, spaces, and the rest, at which the reader stops
pub record IsRead (place : Place) (scalar text rest : List ℕ) : Type 0 where
  pub behind : List ℕ
  pub spaces : AreSpaces behind
  pub whole : text ≡ scalar ++ (behind ++ rest)
  pub plain : IsPlain place scalar
  pub stop : stops place rest ≡ true

module _ (place : Place) (text gap rest : List ℕ) (free : Free place (text ++ gap) rest) where
  held_free : (before after : List ℕ) (byte : ℕ) → text ≡ before ++ (byte ∷ after) → stops place (byte ∷ ((after ++ gap) ++ rest)) ≡ false
  held_free before after byte e =
      free_at place before (after ++ gap) rest byte (subst (λ (f : List ℕ). Free place f rest) (ap (λ (t : List ℕ). t ++ gap) e ∙ append_assoc before (byte ∷ after) gap) free)

  entry_not_held : ¬ Holds (codes ": ") text
  entry_not_held h = true≢false (sym (colon_stops place (32 ∷ ((h.1 ++ gap) ++ rest)) (parted_space ((h.1 ++ gap) ++ rest))) ∙ held_free h.0 (32 ∷ h.1) 58 h.2)

  comment_not_held : ¬ Holds (codes " #") text
  comment_not_held h = true≢false (sym (comment_stops place ((h.1 ++ gap) ++ rest)) ∙ held_free h.0 (35 ∷ h.1) 32 h.2)

  tab_not_held : ¬ Holds (codes "\t") text
  tab_not_held h = true≢false (sym (tab_stops place ((h.1 ++ gap) ++ rest)) ∙ held_free h.0 h.1 9 h.2)

mark_not_held : (place : Place) (text gap rest : List ℕ) → Free place (text ++ gap) rest → HoldsNoMark place text
mark_not_held Line text gap rest free = tt
mark_not_held Flow text gap rest free = λ byte among h. true≢false (sym (mark_stops byte ((h.1 ++ gap) ++ rest) among) ∙ held_free Flow text gap rest free h.0 h.1 byte h.2)

plain_read : (place : Place) (text : List ℕ) → StopsAt is_space text → is_plain (trimmed (plain_front place text)) ≡ true → is_utf8 (trimmed (plain_front place text)) ≡ true
    → IsRead place (trimmed (plain_front place text)) text (plain_rest place text)
plain_read place text clear is utf8 =
    let scalar = trimmed (plain_front place text) in
    let rest = plain_rest place text in
    let parts = trimmed_parts (plain_front place text) in
    let gap = parts.0 in
    let free : Free place (scalar ++ gap) rest = subst (λ (f : List ℕ). Free place f rest) parts.2 (plain_free place text) in
    let whole : text ≡ scalar ++ (gap ++ rest) = sym (plain-whole place text) ∙ ap (λ (f : List ℕ). f ++ rest) parts.2 ∙ append_assoc scalar gap rest in
    record {
      behind = gap;
      spaces = parts.1;
      whole = whole;
      plain = record {
        some = λ e. true≢false (sym is ∙ ap is_plain e ∙ nothing_plain);
        front = λ byte among b. true≢false (sym (any_among indicators byte among) ∙ plain_first byte b.0 (sym (ap is_plain b.1) ∙ is));
        no_entry = entry_not_held place scalar gap rest free;
        no_comment = comment_not_held place scalar gap rest free;
        no_key = λ h. true≢false (sym is ∙ ap is_plain h.1 ∙ colon_plain h.0);
        no_tab = tab_not_held place scalar gap rest free;
        no_space_before = λ b. true≢false (subst (StopsAt is_space) (whole ∙ ap (λ (s : List ℕ). s ++ (gap ++ rest)) b.1) clear);
        no_space_behind = parts.3;
        no_mark = mark_not_held place scalar gap rest free;
        utf8 = utf8;
      };
      stop = plain_stops place text;
    }

pub plain_takes : (place : Place) (text scalar rest : List ℕ) → StopsAt is_space text → plain_at place text ≡ Some (scalar, rest) → IsRead place scalar text rest
unfolding plain_at text_of
plain_takes place text scalar rest clear e =
    elim (cases_Bool (is_plain (trimmed (plain_front place text)))) [
      | inl plain ↦
          let e' : (text_of (trimmed (plain_front place text)) >>= λ (spelled : List ℕ). given (spelled, plain_rest place text)) ≡ Some (scalar, rest) = rw plain at e in
          let one = bind_some (text_of (trimmed (plain_front place text))) (λ (spelled : List ℕ). given (spelled, plain_rest place text)) (scalar, rest) e' in
          let utf8 = guard_some (is_utf8 (trimmed (plain_front place text))) (trimmed (plain_front place text)) one.0 one.1 in
          subst (λ (p : List ℕ × List ℕ). IsRead place p.0 text p.1)
          (ap (λ (t : List ℕ). (t, plain_rest place text)) utf8.1 ∙ some_is (one.0, plain_rest place text) (scalar, rest) one.2)
          (plain_read place text clear plain utf8.0)
      | inr other ↦ absurd (let e' : None ≡ given (scalar, rest) = rw other at e in cc)
    ]

-- ---- what is plain is read

inner_of : (place : Place) (text : List ℕ) → IsPlain place text → Inner place text
inner_of place text p = record { no_entry = p.no_entry; no_comment = p.no_comment; no_key = p.no_key; no_tab = p.no_tab; no_space = p.no_space_behind; no_mark = p.no_mark }

pub plain_again : (place : Place) (scalar behind rest : List ℕ) → IsPlain place scalar → AreSpaces behind → stops place rest ≡ true → plain_at place (scalar ++ (behind ++ rest)) ≡ Some (scalar, rest)
unfolding plain_at text_of
plain_again place scalar behind rest p spaces stop =
    let cut = plain-append place (scalar ++ behind) rest (inner_free place scalar behind rest (inner_of place scalar p) spaces stop) stop in
    let front : plain_front place (scalar ++ (behind ++ rest)) ≡ scalar ++ behind = ap (plain_front place) (sym (append_assoc scalar behind rest)) ∙ cut.0 in
    let left : plain_rest place (scalar ++ (behind ++ rest)) ≡ rest = ap (plain_rest place) (sym (append_assoc scalar behind rest)) ∙ cut.1 in
    let without : trimmed (plain_front place (scalar ++ (behind ++ rest))) ≡ scalar = ap trimmed front ∙ trimmed-append scalar behind spaces p.no_space_behind in
    rw (without, plain_is place scalar p, p.utf8, left) refl

pub plain_begins : (place : Place) (scalar more : List ℕ) → IsPlain place scalar → StopsAt is_space (scalar ++ more)
plain_begins place [] more p = absurd (p.some refl)
plain_begins place (byte ∷ scalar) more p = stops_where (byte ∷ scalar) p.no_space_before

-- ---- the law

pub whole_takes : (place : Place) (text : List ℕ) → ¬ BeginsWith (codes " ") text → plain_at place text ≡ Some (text, []) → IsPlain place text
whole_takes place text clear e = (plain_takes place text text [] (stops_where text clear) e).plain

pub whole_again : (place : Place) (text : List ℕ) → IsPlain place text → plain_at place text ≡ Some (text, [])
whole_again place text p = ap (plain_at place) (sym (append-nil text)) ∙ plain_again place text [] [] p refl (nothing_stops place)

pub plain_law_takes : (place : Place) (text scalar rest : List ℕ) → plain_at place (rest_of is_space text) ≡ Some (scalar, rest) → BeginsWithPlain place scalar text rest
plain_law_takes place text scalar rest e =
    let read = plain_takes place (rest_of is_space text) scalar rest (rest_stops is_space text) e in
    record {
      before = front_of is_space text;
      behind = read.behind;
      before_spaces = front_passes is_space text;
      behind_spaces = read.spaces;
      whole = sym (front-rest is_space text) ∙ ap (λ (t : List ℕ). front_of is_space text ++ t) read.whole;
      plain = read.plain;
      stops = stops_take place rest read.stop;
    }

pub plain_law_again : (place : Place) (text scalar rest : List ℕ) → BeginsWithPlain place scalar text rest → plain_at place (rest_of is_space text) ≡ Some (scalar, rest)
plain_law_again place text scalar rest b =
    let clear : rest_of is_space text ≡ scalar ++ (b.behind ++ rest) =
    ap (rest_of is_space) b.whole ∙ rest-append is_space b.before (scalar ++ (b.behind ++ rest)) b.before_spaces (plain_begins place scalar (b.behind ++ rest) b.plain) in
    ap (plain_at place) clear ∙ plain_again place scalar b.behind rest b.plain b.behind_spaces (stops_again place rest b.stops)
