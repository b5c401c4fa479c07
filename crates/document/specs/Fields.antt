-- The fields of the type `Profile` of src/, and the numbers that clauses see in them.
--
-- numbers_in x : the numbers that are in the fields x
-- fields_of p  : the fields that hold the numbers p
use Rattle.document.specs.declared.Profile.TheInside.{Inside}
use Rattle.document.specs.Accepted.{Profile}

abbrev pub numbers_in : Inside → Profile
numbers_in x = record { n = x.n; k = x.k; a = x.a; t = x.t; s = x.s; edition = x.edition }

abbrev pub fields_of : Profile → Inside
fields_of p = record { n = p.n; k = p.k; a = p.a; t = p.t; s = p.s; edition = p.edition }
