-- What may stand between the tags of an element (CMSIS-SVD 1.3). A container holds elements, comments and white space. A key holds a value. In what is
-- passed over and in what isn't known anything stands, and nothing in there is a container or a key.
use Rattle.std.specs.Prelude.{ℕ, List, Option, Some, None}
use Rattle.svd_schema.specs.declared.container.Container.TheVariants.{Device}
use Rattle.svd_schema.specs.declared.roles.Role.{Role}
use Rattle.svd_schema.specs.declared.roles.Role.TheVariants.{Holds, States, PassedOver}
use Rattle.svd_schema.specs.Table.{role_of}
use Rattle.svd_text.specs.declared.content.Content.{Content}
use Rattle.svd_text.specs.declared.content.Content.TheVariants.{Whole, Behind, Parts, Value, Anything}
use Rattle.text_scan.specs.declared.class.Class.TheVariants.{Blank}
use Rattle.text_scan.specs.Classes.{has}
use Rattle.text_scan.specs.Fronts.{Passes}

-- by what an element is in its container
abbrev pub content_by : Option Role → Content
content_by (Some (Holds container)) = Parts container
content_by (Some (States key)) = Value
content_by (Some PassedOver) = Anything
content_by None = Anything

-- what an element of that name may hold, by what the one round it may hold
abbrev pub content_in : Content → List ℕ → Content
content_in Whole name = Parts Device
content_in Behind name = Parts Device
content_in (Parts container) name = content_by (role_of container name)
content_in Value name = Anything
content_in Anything name = Anything

-- whether a text may stand there
abbrev pub MaySay : Content → List ℕ → Type 0
MaySay Value said = Unit {0}
MaySay Anything said = Unit {0}
MaySay _ said = Passes (has Blank) said

-- whether a reference may stand there
abbrev pub MayRefer : Content → Type 0
MayRefer Value = Unit {0}
MayRefer Anything = Unit {0}
MayRefer _ = ⊥
