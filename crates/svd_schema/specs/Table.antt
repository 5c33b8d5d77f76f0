-- The table of a description's elements (CMSIS-SVD 1.3): for each container the elements that may stand in it. `vendorExtensions` is passed
-- over in each.
use Rattle.std.specs.Prelude.{ℕ, List, [], ◌∷◌, Option, codes}
use Rattle.std.specs.Map.{lookup}
use Rattle.std.specs.Str.{bytes_eq}
use Rattle.svd_schema.specs.declared.container.Container.{Container}
use Rattle.svd_schema.specs.declared.container.Container.TheVariants.{Device, Peripherals, Peripheral, Registers, Cluster, Register, Fields, Field, ValueSet, Variant}
use Rattle.svd_schema.specs.declared.key.Key.TheVariants.{Name, AddressUnitBits, Size, Access, ResetValue, ResetMask, Dim, DimIncrement, DimIndex, BaseAddress, AddressOffset, AlternateCluster, AlternateGroup, AlternateRegister, ModifiedWriteValues, ReadAction, BitOffset, BitWidth, Lsb, Msb, BitRange, Usage, Value, IsDefault}
use Rattle.svd_schema.specs.declared.roles.Role.{Role}
use Rattle.svd_schema.specs.declared.roles.Role.TheVariants.{Holds, States, PassedOver}

-- the elements that may stand in a container, by name, with what each is there; in rising order of their names
unfoldable pub row_of : Container → List (List ℕ × Role)
row_of Device =
    (codes "access", States Access) ∷
    (codes "addressUnitBits", States AddressUnitBits) ∷
    (codes "cpu", PassedOver) ∷
    (codes "description", PassedOver) ∷
    (codes "headerDefinitionsPrefix", PassedOver) ∷
    (codes "headerSystemFilename", PassedOver) ∷
    (codes "licenseText", PassedOver) ∷
    (codes "name", States Name) ∷
    (codes "peripherals", Holds Peripherals) ∷
    (codes "protection", PassedOver) ∷
    (codes "resetMask", States ResetMask) ∷
    (codes "resetValue", States ResetValue) ∷
    (codes "series", PassedOver) ∷
    (codes "size", States Size) ∷
    (codes "vendor", PassedOver) ∷
    (codes "vendorExtensions", PassedOver) ∷
    (codes "vendorID", PassedOver) ∷
    (codes "version", PassedOver) ∷
    (codes "width", PassedOver) ∷ []
row_of Peripherals =
    (codes "peripheral", Holds Peripheral) ∷
    (codes "vendorExtensions", PassedOver) ∷ []
row_of Peripheral =
    (codes "access", States Access) ∷
    (codes "addressBlock", PassedOver) ∷
    (codes "alternatePeripheral", PassedOver) ∷
    (codes "appendToName", PassedOver) ∷
    (codes "baseAddress", States BaseAddress) ∷
    (codes "description", PassedOver) ∷
    (codes "dim", States Dim) ∷
    (codes "dimArrayIndex", PassedOver) ∷
    (codes "dimIncrement", States DimIncrement) ∷
    (codes "dimIndex", States DimIndex) ∷
    (codes "dimName", PassedOver) ∷
    (codes "disableCondition", PassedOver) ∷
    (codes "groupName", PassedOver) ∷
    (codes "headerStructName", PassedOver) ∷
    (codes "interrupt", PassedOver) ∷
    (codes "name", States Name) ∷
    (codes "prependToName", PassedOver) ∷
    (codes "protection", PassedOver) ∷
    (codes "registers", Holds Registers) ∷
    (codes "resetMask", States ResetMask) ∷
    (codes "resetValue", States ResetValue) ∷
    (codes "size", States Size) ∷
    (codes "vendorExtensions", PassedOver) ∷
    (codes "version", PassedOver) ∷ []
row_of Registers =
    (codes "cluster", Holds Cluster) ∷
    (codes "register", Holds Register) ∷
    (codes "vendorExtensions", PassedOver) ∷ []
row_of Cluster =
    (codes "access", States Access) ∷
    (codes "addressOffset", States AddressOffset) ∷
    (codes "alternateCluster", States AlternateCluster) ∷
    (codes "cluster", Holds Cluster) ∷
    (codes "description", PassedOver) ∷
    (codes "dim", States Dim) ∷
    (codes "dimArrayIndex", PassedOver) ∷
    (codes "dimIncrement", States DimIncrement) ∷
    (codes "dimIndex", States DimIndex) ∷
    (codes "dimName", PassedOver) ∷
    (codes "headerStructName", PassedOver) ∷
    (codes "name", States Name) ∷
    (codes "protection", PassedOver) ∷
    (codes "register", Holds Register) ∷
    (codes "resetMask", States ResetMask) ∷
    (codes "resetValue", States ResetValue) ∷
    (codes "size", States Size) ∷
    (codes "vendorExtensions", PassedOver) ∷ []
row_of Register =
    (codes "access", States Access) ∷
    (codes "addressOffset", States AddressOffset) ∷
    (codes "alternateGroup", States AlternateGroup) ∷
    (codes "alternateRegister", States AlternateRegister) ∷
    (codes "dataType", PassedOver) ∷
    (codes "description", PassedOver) ∷
    (codes "dim", States Dim) ∷
    (codes "dimArrayIndex", PassedOver) ∷
    (codes "dimIncrement", States DimIncrement) ∷
    (codes "dimIndex", States DimIndex) ∷
    (codes "dimName", PassedOver) ∷
    (codes "displayName", PassedOver) ∷
    (codes "fields", Holds Fields) ∷
    (codes "modifiedWriteValues", States ModifiedWriteValues) ∷
    (codes "name", States Name) ∷
    (codes "protection", PassedOver) ∷
    (codes "readAction", States ReadAction) ∷
    (codes "resetMask", States ResetMask) ∷
    (codes "resetValue", States ResetValue) ∷
    (codes "size", States Size) ∷
    (codes "vendorExtensions", PassedOver) ∷
    (codes "writeConstraint", PassedOver) ∷ []
row_of Fields =
    (codes "field", Holds Field) ∷
    (codes "vendorExtensions", PassedOver) ∷ []
row_of Field =
    (codes "access", States Access) ∷
    (codes "bitOffset", States BitOffset) ∷
    (codes "bitRange", States BitRange) ∷
    (codes "bitWidth", States BitWidth) ∷
    (codes "description", PassedOver) ∷
    (codes "dim", States Dim) ∷
    (codes "dimArrayIndex", PassedOver) ∷
    (codes "dimIncrement", States DimIncrement) ∷
    (codes "dimIndex", States DimIndex) ∷
    (codes "dimName", PassedOver) ∷
    (codes "enumeratedValues", Holds ValueSet) ∷
    (codes "lsb", States Lsb) ∷
    (codes "modifiedWriteValues", States ModifiedWriteValues) ∷
    (codes "msb", States Msb) ∷
    (codes "name", States Name) ∷
    (codes "readAction", States ReadAction) ∷
    (codes "vendorExtensions", PassedOver) ∷
    (codes "writeConstraint", PassedOver) ∷ []
row_of ValueSet =
    (codes "enumeratedValue", Holds Variant) ∷
    (codes "headerEnumName", PassedOver) ∷
    (codes "name", States Name) ∷
    (codes "usage", States Usage) ∷
    (codes "vendorExtensions", PassedOver) ∷ []
row_of Variant =
    (codes "description", PassedOver) ∷
    (codes "isDefault", States IsDefault) ∷
    (codes "name", States Name) ∷
    (codes "value", States Value) ∷
    (codes "vendorExtensions", PassedOver) ∷ []

-- what an element of that name is in the container; none where it may not stand there
abbrev pub role_of : Container → List ℕ → Option Role
role_of container name = lookup (bytes_eq name) (row_of container)
