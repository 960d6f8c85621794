-- What is appended under other names changes nothing of the functions over bytes.
use Rattle.std.specs.Prelude.{codes}
use Rattle.std.specs.Int.{w16, w32, w64}
use Rattle.ecd_fixed_bytes.specs.Compare.{compare_bytes, ComparesBytes}
use Rattle.ecd_fixed_bytes.specs.Utf8.{utf8_begin, utf8_next, utf8_valid, BeginsUtf8, GoesOnUtf8, ChecksUtf8}
use Rattle.ecd_fixed_bytes.specs.HeadWriter.{head_length, store_be16, store_be32, store_be64, put_head, HeadLength, StoresNumber, WritesHead}
use Rattle.ecd_fixed_bytes.specs.Copier.{copy_bytes, CopiesBytes}
use Rattle.ecd_fixed_bytes.specs.Standing.{ComparisonIsKept, Utf8IsKept, HeadWriterIsKept, CopierIsKept}
use Rattle.ecd_emit.proofs.Kept.{callee_kept, among_kept}

pub comparison_is_kept : ComparisonIsKept
comparison_is_kept = record { there = λ items more h. record { order = h.order; there = among_kept (compare_bytes h.order) items more h.there }; mean = λ order items more new h. callee_kept (ComparesBytes order) items more (codes "compare_bytes") new h }

pub utf8_is_kept : Utf8IsKept
utf8_is_kept = record {
  there = λ items more h. record { begins = among_kept utf8_begin items more h.begins; goes_on = among_kept utf8_next items more h.goes_on; valid = among_kept utf8_valid items more h.valid };
  mean = λ items more new h. record {
    begins = callee_kept BeginsUtf8 items more (codes "utf8_begin") new.0 h.begins;
    goes_on = callee_kept GoesOnUtf8 items more (codes "utf8_next") new.1.0 h.goes_on;
    valid = callee_kept ChecksUtf8 items more (codes "utf8_valid") new.1.1.0 h.valid;
  };
}

pub head_writer_is_kept : HeadWriterIsKept
head_writer_is_kept = record {
  there = λ items more h. record {
    length = among_kept head_length items more h.length;
    be16 = among_kept store_be16 items more h.be16;
    be32 = among_kept store_be32 items more h.be32;
    be64 = among_kept store_be64 items more h.be64;
    head = among_kept put_head items more h.head;
  };
  mean = λ items more new h. record {
    length = callee_kept HeadLength items more (codes "head_length") new.0 h.length;
    be16 = callee_kept (StoresNumber w16 3) items more (codes "store_be16") new.1.0 h.be16;
    be32 = callee_kept (StoresNumber w32 9) items more (codes "store_be32") new.1.1.0 h.be32;
    be64 = callee_kept (StoresNumber w64 21) items more (codes "store_be64") new.1.1.1.0 h.be64;
    head = callee_kept WritesHead items more (codes "put_head") new.1.1.1.1.0 h.head;
  };
}

pub copier_is_kept : CopierIsKept
copier_is_kept = record { there = among_kept copy_bytes; mean = λ items more new h. callee_kept CopiesBytes items more (codes "copy_bytes") new h }
