-- The datatypes that have values here, by their IRIs: XSD 1.1 Part 2, section 3.
use Rattle.std.specs.Prelude.{ℕ, List, length, drop, Bool, true, ◌&&◌, Option, Some, None, nat_eq, codes, if◌then◌else◌, ℤ, pos, negsuc, int_le, bytes_eq}
use Rattle.std.specs.List.{starts_with}
use Rattle.literal_order.specs.declared.datatype.Datatype.{Datatype}
use Rattle.literal_order.specs.declared.datatype.Datatype.TheVariants as datatypes
use Rattle.literal_order.specs.declared.datatype.IntegerType.{IntegerType}
use Rattle.literal_order.specs.declared.datatype.IntegerType.TheVariants as integers

-- integer and the types derived from it, by their local names (3.4.13 to 3.4.25)
unfoldable pub integer_type : List ℕ → Option IntegerType
integer_type name =
    if bytes_eq name (codes "integer") then Some integers.Integer
    else (if bytes_eq name (codes "nonPositiveInteger") then Some integers.NonPositiveInteger
    else (if bytes_eq name (codes "negativeInteger") then Some integers.NegativeInteger
    else (if bytes_eq name (codes "nonNegativeInteger") then Some integers.NonNegativeInteger
    else (if bytes_eq name (codes "positiveInteger") then Some integers.PositiveInteger
    else (if bytes_eq name (codes "long") then Some integers.Long
    else (if bytes_eq name (codes "int") then Some integers.Int
    else (if bytes_eq name (codes "short") then Some integers.Short
    else (if bytes_eq name (codes "byte") then Some integers.Byte
    else (if bytes_eq name (codes "unsignedLong") then Some integers.UnsignedLong
    else (if bytes_eq name (codes "unsignedInt") then Some integers.UnsignedInt
    else (if bytes_eq name (codes "unsignedShort") then Some integers.UnsignedShort
    else (if bytes_eq name (codes "unsignedByte") then Some integers.UnsignedByte
    else None))))))))))))

abbrev pub integer_or_other : Option IntegerType → Datatype
integer_or_other None = datatypes.Other
integer_or_other (Some kind) = datatypes.Integer kind

-- by the name in the namespace of XML Schema
unfoldable pub local_datatype : List ℕ → Datatype
local_datatype name =
    if bytes_eq name (codes "string") then datatypes.String
    else (if bytes_eq name (codes "boolean") then datatypes.Boolean
    else (if bytes_eq name (codes "decimal") then datatypes.Decimal
    else (if bytes_eq name (codes "dateTime") then datatypes.DateTime
    else (if bytes_eq name (codes "date") then datatypes.Date
    else (if bytes_eq name (codes "float") then datatypes.Floating
    else (if bytes_eq name (codes "double") then datatypes.Floating
    else integer_or_other (integer_type name)))))))

-- by the IRI; rdf:langString is RDF 1.1 Concepts, section 3.3
unfoldable pub datatype_of : List ℕ → Datatype
datatype_of iri =
    if bytes_eq iri (codes "http://www.w3.org/1999/02/22-rdf-syntax-ns#langString") then datatypes.LangString
    else (if starts_with nat_eq iri (codes "http://www.w3.org/2001/XMLSchema#") then local_datatype (drop (length (codes "http://www.w3.org/2001/XMLSchema#")) iri)
    else datatypes.Other)

-- the least and the greatest value of each integer type, where there is one; negsuc n is -(n + 1)
abbrev pub least : IntegerType → Option ℤ
least integers.Integer = None
least integers.NonPositiveInteger = None
least integers.NegativeInteger = None
least integers.NonNegativeInteger = Some (pos 0)
least integers.PositiveInteger = Some (pos 1)
least integers.Long = Some (negsuc 9_223_372_036_854_775_807)
least integers.Int = Some (negsuc 2_147_483_647)
least integers.Short = Some (negsuc 32_767)
least integers.Byte = Some (negsuc 127)
least integers.UnsignedLong = Some (pos 0)
least integers.UnsignedInt = Some (pos 0)
least integers.UnsignedShort = Some (pos 0)
least integers.UnsignedByte = Some (pos 0)

abbrev pub greatest : IntegerType → Option ℤ
greatest integers.Integer = None
greatest integers.NonPositiveInteger = Some (pos 0)
greatest integers.NegativeInteger = Some (negsuc 0)
greatest integers.NonNegativeInteger = None
greatest integers.PositiveInteger = None
greatest integers.Long = Some (pos 9_223_372_036_854_775_807)
greatest integers.Int = Some (pos 2_147_483_647)
greatest integers.Short = Some (pos 32_767)
greatest integers.Byte = Some (pos 127)
greatest integers.UnsignedLong = Some (pos 18_446_744_073_709_551_615)
greatest integers.UnsignedInt = Some (pos 4_294_967_295)
greatest integers.UnsignedShort = Some (pos 65_535)
greatest integers.UnsignedByte = Some (pos 255)

abbrev pub is_at_least : Option ℤ → ℤ → Bool
is_at_least None number = true
is_at_least (Some bound) number = int_le bound number

abbrev pub is_at_most : Option ℤ → ℤ → Bool
is_at_most None number = true
is_at_most (Some bound) number = int_le number bound

unfoldable pub is_in_range : IntegerType → ℤ → Bool
is_in_range kind number = is_at_least (least kind) number && is_at_most (greatest kind) number
